-- Sections that are put into a part one behind the other.
use Rattle.std.proofs.Common.{◌≡◌, ℕ, zero, suc, ◌+◌, ◌<◌, ◌≤◌, Bool, false, List, [], ◌∷◌, ◌++◌, drop, fold, get_or, length, replicate, take, zip, subst, refl, sym, ap, ◌∙◌, arith}
use Rattle.std.specs.List.{AllZip}
use Rattle.std.proofs.lemmas.List.{append-nil, drop_all}
use Rattle.std.proofs.lemmas.Slice.Zip.{AllZip-long}
use Rattle.ad_base.specs.Image.{zeros}
use Rattle.ad_elf.specs.declared.object.Object.{Object}
use Rattle.ad_elf.specs.declared.object.Section.{Section}
use Rattle.ad_parts.specs.Area.{area_in}
use Rattle.ad_parts.specs.Layout.{area_to}
use Rattle.ad_parts.specs.declared.layout.Group.TheVariants as group
use Rattle.ad_parts.specs.declared.layout.Layout.{Layout}
use Rattle.ad_parts.specs.declared.layout.Sizes.{Sizes}
use Rattle.ad_parts.specs.declared.layout.Spot.{Spot}
use Rattle.ad_reloc.specs.Image.{laid_out, with_section}
use Rattle.ad_reloc.specs.Private.Parts.{LiesInPart}
use lib.Seq.{take_all}

zip-next : {A B : Type 0} (xs : List A) (ys : List B) (k : ℕ) (d : A) (e : B) → k < length xs → k < length ys → drop k (zip xs ys) ≡ (get_or xs k d, get_or ys k e) ∷ drop (suc k) (zip xs ys)
zip-next [] ys k d e h i = absurd (omega arith)
zip-next (x ∷ xs) [] k d e h i = absurd (omega arith)
zip-next (x ∷ xs) (y ∷ ys) zero d e h i = refl
zip-next (x ∷ xs) (y ∷ ys) (suc k) d e h i = zip-next xs ys k d e (omega arith) (omega arith)

drop-zip : {A B : Type 0} (xs : List A) (ys : List B) (k : ℕ) (d : A) (e : B) → k < length xs → k < length ys → drop k (zip xs ys) ≡ (get_or xs k d, get_or ys k e) ∷ drop (k + 1) (zip xs ys)
drop-zip xs ys k d e h i =
    let more : suc k ≡ k + 1 = omega arith in
    zip-next xs ys k d e h i ∙ ap (λ n. (get_or xs k d, get_or ys k e) ∷ drop n (zip xs ys)) more

-- what a search past the end of a list of spots gives
abbrev pub no_spot : Spot
no_spot = record { section = 0; movable = false; group = group.Text; offset = 0 }

end-zip : {A B : Type 0} (xs : List A) (ys : List B) (k : ℕ) → length xs ≤ k → drop k (zip xs ys) ≡ []
end-zip [] ys k h = drop_all k [] (omega arith)
end-zip (x ∷ xs) [] k h = drop_all k [] (omega arith)
end-zip (x ∷ xs) (y ∷ ys) zero h = absurd (omega arith)
end-zip (x ∷ xs) (y ∷ ys) (suc k) h = end-zip xs ys k (omega arith)

zip_at : {A B : Type 0} (P : A → B → Type 0) (xs : List A) (ys : List B) (k : ℕ) (d : A) (e : B) → AllZip P xs ys → k < length xs → P (get_or xs k d) (get_or ys k e)
zip_at P [] ys k d e all h = absurd (omega arith)
zip_at P (x ∷ xs) [] k d e all h = absurd all
zip_at P (x ∷ xs) (y ∷ ys) zero d e all h = all.0
zip_at P (x ∷ xs) (y ∷ ys) (suc k) d e all h = zip_at P xs ys k d e all.1 (omega arith)

pub same_length : (z : Sizes) (ss rs : List Section) (ts us : List Spot) (k : ℕ) → AllZip (LiesInPart z) ss ts → rs ≡ ss → us ≡ ts → k < length rs → k < length us
same_length z ss rs ts us k all same alike below = omega (arith, AllZip-long (LiesInPart z) ss ts all, ap length same, ap length alike, below)

pub fits_at : (z : Sizes) (ss rs : List Section) (ts us : List Spot) (k : ℕ) (movable : Bool) (n : ℕ) (s : Section) (e : Spot) → AllZip (LiesInPart z) ss ts → rs ≡ ss → us ≡ ts → k < length rs → s ≡ get_or rs k s
    → n ≡ area_to z (area_in movable group.Writable) → (get_or us k e).movable ≡ movable → (get_or us k e).offset + length s.bytes ≤ n
fits_at z ss rs ts us k movable n s e all same alike below here long mine =
    let lies = zip_at (LiesInPart z) rs us k s e (subst (λ l. AllZip (LiesInPart z) l us) (sym same) (subst (AllZip (LiesInPart z) ss) (sym alike) all)) below in
    let inside : (get_or us k e).offset + length (get_or rs k s).bytes ≤ area_to z (area_in movable group.Writable) =
    subst (λ m. (get_or us k e).offset + length (get_or rs k s).bytes ≤ area_to z (area_in m group.Writable)) mine lies in
    omega (arith, inside, long, ap (λ (s : Section). length s.bytes) here)

pub laid_begin : (o : Object) (l : Layout) (movable : Bool) (part : List ℕ) → part ≡ replicate (area_to l.sizes (area_in movable group.Writable)) 0 → fold (with_section movable) part (zip o.sections l.spots) ≡ laid_out o l movable
unfolding laid_out zeros
laid_begin o l movable part empty = ap (λ p. fold (with_section movable) p (zip o.sections l.spots)) empty

-- a slice that was written back to its vector
pub written_back : (n : ℕ) (new old : List ℕ) → n ≡ length old → length new ≡ length old → take n (new ++ drop (length new) old) ≡ new
written_back n new old long same =
    rw (drop_all (length new) old (omega (arith, same)), append-nil new) (take_all n new (omega (arith, long, same)))

pub laid_more : (o : Object) (l : Layout) (movable : Bool) (rs : List Section) (us : List Spot) (k : ℕ) (s : Section) (e : Spot) (part next : List ℕ) → AllZip (LiesInPart l.sizes) o.sections l.spots → rs ≡ o.sections → us ≡ l.spots → k < length rs
    → s ≡ get_or rs k s → next ≡ with_section movable part (s, get_or us k e) → fold (with_section movable) part (drop k (zip o.sections l.spots)) ≡ laid_out o l movable
    → fold (with_section movable) next (drop (k + 1) (zip o.sections l.spots)) ≡ laid_out o l movable
laid_more o l movable rs us k s e part next all same alike below here made left =
    let long = AllZip-long (LiesInPart l.sizes) o.sections l.spots all in
    let step : drop k (zip o.sections l.spots) ≡ (get_or o.sections k s, get_or l.spots k e) ∷ drop (k + 1) (zip o.sections l.spots) =
    drop-zip o.sections l.spots k s e (omega (arith, below, ap length same)) (omega (arith, below, ap length same, long)) in
    let item : (s, get_or us k e) ≡ (get_or o.sections k s, get_or l.spots k e) = λ i. ((here ∙ ap (λ l. get_or l k s) same) i, get_or (alike i) k e) in
    let begin = made ∙ ap (with_section movable part) item in
    ap (λ p. fold (with_section movable) p (drop (k + 1) (zip o.sections l.spots))) begin ∙ (sym (ap (fold (with_section movable) part) step) ∙ left)

pub all_laid : (o : Object) (l : Layout) (movable : Bool) (part : List ℕ) (k : ℕ) → length o.sections ≤ k → fold (with_section movable) part (drop k (zip o.sections l.spots)) ≡ laid_out o l movable → part ≡ laid_out o l movable
all_laid o l movable part k all left = sym (ap (fold (with_section movable) part) (end-zip o.sections l.spots k all)) ∙ left
