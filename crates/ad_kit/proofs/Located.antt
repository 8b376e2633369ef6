-- The parts of a written file, and where they begin.
use Rattle.std.proofs.Common.{◌≡◌, ℕ, suc, ◌+◌, ◌-◌, ◌<◌, ◌≤◌, List, [], ◌∷◌, ◌++◌, append_assoc, drop, flat_map, fold, get_or, length, replicate, take, refl, sym, ap, ap₂, ◌∙◌, arith, length-append, take-append-drop}
use Rattle.std.proofs.Math.Seq.{drop-append-add, drop-append_seam, split_at}
use Rattle.std.proofs.lemmas.List.{append-nil, get_or_default, length-replicate}
use Rattle.ad_parts.proofs.Next.{next-from}
use Rattle.ad_kit.specs.ObjectFile.{begin_behind, end_of, file_header, header, headers, number, object_file, padded, rela, relas_bytes, section_names, sections_bytes, stored, strings, symbol_names, symbols_bytes, to_names, to_relas, to_strings, to_symbols, to_table}
use Rattle.ad_kit.specs.ReadBack.{no_section, section_behind}
use Rattle.ad_kit.specs.declared.object.KitSection.{KitSection}
use Rattle.ad_kit.specs.declared.object.KitSymbol.{KitSymbol}
use Rattle.ad_kit.proofs.Bytes.{sections_bytes-more}

-- In these bytes, behind the first ones there stand the second ones.
pub record Stands (whole front part : List ℕ) : Type 0 where
  pub rest : List ℕ
  pub here : whole ≡ front ++ (part ++ rest)

stands_last : (front part : List ℕ) → Stands (front ++ part) front part
stands_last front part = record { rest = []; here = ap (λ (x : List ℕ). front ++ x) (sym (append-nil part)) }

stands_more : (whole front part more : List ℕ) → Stands whole front part → Stands (whole ++ more) front part
stands_more whole front part more s = record {
  rest = s.rest ++ more;
  here = ap (λ (x : List ℕ). x ++ more) s.here ∙ append_assoc front (part ++ s.rest) more ∙ ap (λ (x : List ℕ). front ++ x) (append_assoc part s.rest more);
}

stands_behind : (before whole front part : List ℕ) → Stands whole front part → Stands (before ++ whole) (before ++ front) part
stands_behind before whole front part s = record { rest = s.rest; here = ap (λ (x : List ℕ). before ++ x) s.here ∙ sym (append_assoc before front (part ++ s.rest)) }

stands_padded : (align : ℕ) (whole front part : List ℕ) → Stands whole front part → Stands (padded align whole) front part
unfolding padded
stands_padded align whole front part s = stands_more whole front part (replicate (begin_behind align whole - end_of whole) 0) s

-- the names of the sections, of the symbols, the symbols, the relocations of a section and the bytes of a section
pub stands_names : (ss : List KitSection) (ys : List KitSymbol) → Stands (to_table ss ys) (to_names ss ys) (strings (section_names ss))
stands_names ss ys = stands_padded 8 (to_names ss ys ++ strings (section_names ss)) (to_names ss ys) (strings (section_names ss)) (stands_last (to_names ss ys) (strings (section_names ss)))

behind_names : (ss : List KitSection) (ys : List KitSymbol) (front part : List ℕ) → Stands (to_names ss ys) front part → Stands (to_table ss ys) front part
behind_names ss ys front part s = stands_padded 8 (to_names ss ys ++ strings (section_names ss)) front part (stands_more (to_names ss ys) front part (strings (section_names ss)) s)

pub stands_strings : (ss : List KitSection) (ys : List KitSymbol) → Stands (to_table ss ys) (to_strings ss ys) (strings (symbol_names ys))
stands_strings ss ys = behind_names ss ys (to_strings ss ys) (strings (symbol_names ys)) (stands_last (to_strings ss ys) (strings (symbol_names ys)))

behind_symbols : (ss : List KitSection) (ys : List KitSymbol) (front part : List ℕ) → Stands (to_strings ss ys) front part → Stands (to_table ss ys) front part
behind_symbols ss ys front part s = behind_names ss ys front part (stands_more (to_strings ss ys) front part (strings (symbol_names ys)) s)

pub stands_symbols : (ss : List KitSection) (ys : List KitSymbol) → Stands (to_table ss ys) (to_symbols ss) (symbols_bytes (symbol_names ys) ys)
stands_symbols ss ys = behind_symbols ss ys (to_symbols ss) (symbols_bytes (symbol_names ys) ys) (stands_last (to_symbols ss) (symbols_bytes (symbol_names ys) ys))

behind_relas : (ss : List KitSection) (ys : List KitSymbol) (front part : List ℕ) → Stands (to_symbols ss) front part → Stands (to_table ss ys) front part
behind_relas ss ys front part s = behind_symbols ss ys front part (stands_more (to_symbols ss) front part (symbols_bytes (symbol_names ys) ys) s)

flat_map-append : {X : Type 0} (f : X → List ℕ) (xs ys : List X) → flat_map f (xs ++ ys) ≡ flat_map f xs ++ flat_map f ys
flat_map-append f [] ys = refl
flat_map-append f (x ∷ xs) ys = ap (λ (r : List ℕ). f x ++ r) (flat_map-append f xs ys) ∙ sym (append_assoc (f x) (flat_map f xs) (flat_map f ys))

stands_piece : {X : Type 0} (f : X → List ℕ) (xs : List X) (k : ℕ) (d : X) → k < length xs → Stands (flat_map f xs) (flat_map f (take k xs)) (f (get_or xs k d))
stands_piece f xs k d below = record {
  rest = flat_map f (drop (suc k) xs);
  here = ap (flat_map f) (split_at xs k d below) ∙ flat_map-append f (take k xs) (get_or xs k d ∷ drop (suc k) xs);
}

pub stands_relas : (ss : List KitSection) (ys : List KitSymbol) (k : ℕ) → k < length ss → Stands (to_table ss ys) (to_relas ss ++ relas_bytes (take k ss)) (flat_map rela (section_behind ss k).relas)
unfolding relas_bytes
stands_relas ss ys k below =
    behind_relas ss ys (to_relas ss ++ relas_bytes (take k ss)) (flat_map rela (section_behind ss k).relas)
    (stands_behind (to_relas ss) (relas_bytes ss) (relas_bytes (take k ss)) (flat_map rela (section_behind ss k).relas) (stands_piece (λ (s : KitSection). flat_map rela s.relas) ss k no_section below))

abbrev step : List ℕ → KitSection → List ℕ
step body s = padded s.align body ++ stored s

begins_padded : (align : ℕ) (body : List ℕ) → (r : List ℕ) × (padded align body ≡ body ++ r)
unfolding padded
begins_padded align body = (replicate (begin_behind align body - end_of body) 0, refl)

fold_begins : (later : List KitSection) (body : List ℕ) → (r : List ℕ) × (fold step body later ≡ body ++ r)
fold_begins [] body = ([], sym (append-nil body))
fold_begins (s ∷ later) body =
    let more = fold_begins later (step body s) in
    let pad = begins_padded s.align body in
    let here : step body s ≡ body ++ (pad.0 ++ stored s) = ap (λ (x : List ℕ). x ++ stored s) pad.1 ∙ append_assoc body pad.0 (stored s) in
    (pad.0 ++ stored s ++ more.0, more.1 ∙ ap (λ (x : List ℕ). x ++ more.0) here ∙ append_assoc body (pad.0 ++ stored s) more.0)

fold-append : (xs ys : List KitSection) (body : List ℕ) → fold step body (xs ++ ys) ≡ fold step (fold step body xs) ys
fold-append [] ys body = refl
fold-append (x ∷ xs) ys body = fold-append xs ys (step body x)

sections_begin : (ss : List KitSection) (k : ℕ) → (r : List ℕ) × (sections_bytes ss ≡ sections_bytes (take k ss) ++ r)
unfolding sections_bytes
sections_begin ss k =
    let more = fold_begins (drop k ss) (sections_bytes (take k ss)) in
    (more.0, ap sections_bytes (sym (take-append-drop k ss)) ∙ fold-append (take k ss) (drop k ss) [] ∙ more.1)

pub stands_section : (ss : List KitSection) (ys : List KitSymbol) (k : ℕ) → k < length ss → Stands (to_table ss ys) (padded (section_behind ss k).align (sections_bytes (take k ss))) (stored (section_behind ss k))
stands_section ss ys k below =
    let s = section_behind ss k in
    let front = padded s.align (sections_bytes (take k ss)) in
    let more = sections_begin ss (k + 1) in
    let upto : front ++ stored s ≡ sections_bytes (take (k + 1) ss) = sections_bytes-more ss k s front below (get_or_default ss k no_section s below) refl in
    let inside : Stands (sections_bytes ss) front (stored s) = record {
      rest = more.0;
      here = more.1 ∙ ap (λ (x : List ℕ). x ++ more.0) (sym upto) ∙ append_assoc front (stored s) more.0;
    } in
    behind_relas ss ys front (stored s) (stands_more (to_relas ss) front (stored s) (relas_bytes ss) (stands_padded 8 (sections_bytes ss) front (stored s) inside))

-- the place behind bytes up to an alignment
pub begin_is : (align : ℕ) (body : List ℕ) → 0 < align → begin_behind align body ≡ end_of (padded align body)
unfolding padded
begin_is align body some =
    omega (arith, next-from align (end_of body) some, length-append body (replicate (begin_behind align body - end_of body) 0), length-replicate {A = ℕ} (begin_behind align body - end_of body) 0)

-- the file behind its header
length-file_header : (at n : ℕ) → length (file_header at n) ≡ 64
length-file_header at n = refl

abbrev pub heads : List KitSection → List KitSymbol → List ℕ
heads ss ys = flat_map header (headers ss ys)

pub file_behind : (ss : List KitSection) (ys : List KitSymbol) (front back : List ℕ) → to_table ss ys ≡ front ++ back → drop (end_of front) (object_file ss ys) ≡ back ++ heads ss ys
unfolding object_file
file_behind ss ys front back e =
    let first = file_header (end_of (to_table ss ys)) (number ss + 3) in
    let whole : object_file ss ys ≡ first ++ (front ++ (back ++ heads ss ys)) =
    append_assoc first (to_table ss ys) (heads ss ys) ∙ ap (λ (x : List ℕ). first ++ x) (ap (λ (x : List ℕ). x ++ heads ss ys) e ∙ append_assoc front back (heads ss ys)) in
    let at : end_of front ≡ length first + length front = omega (arith, length-file_header (end_of (to_table ss ys)) (number ss + 3)) in
    ap₂ (λ (n : ℕ) (x : List ℕ). drop n x) at whole ∙ drop-append-add first (front ++ (back ++ heads ss ys)) (length front) ∙ drop-append_seam front (back ++ heads ss ys)

pub part_behind : (ss : List KitSection) (ys : List KitSymbol) (front part : List ℕ) (s : Stands (to_table ss ys) front part) → drop (end_of front) (object_file ss ys) ≡ part ++ (s.rest ++ heads ss ys)
part_behind ss ys front part s = file_behind ss ys front (part ++ s.rest) s.here ∙ append_assoc part s.rest (heads ss ys)

pub length-file : (ss : List KitSection) (ys : List KitSymbol) → length (object_file ss ys) ≡ end_of (to_table ss ys) + length (heads ss ys)
unfolding object_file
length-file ss ys =
    let first = file_header (end_of (to_table ss ys)) (number ss + 3) in
    omega (arith, length-append (first ++ to_table ss ys) (heads ss ys), length-append first (to_table ss ys), length-file_header (end_of (to_table ss ys)) (number ss + 3))

pub part_inside : (ss : List KitSection) (ys : List KitSymbol) (front part : List ℕ) → Stands (to_table ss ys) front part → end_of front + length part ≤ end_of (to_table ss ys)
part_inside ss ys front part s = omega (arith, ap length s.here, length-append front (part ++ s.rest), length-append part s.rest)
