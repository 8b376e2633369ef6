-- What is appended section by section.
use Rattle.std.proofs.Common.{◌≡◌, inl, inr, ℕ, ◌+◌, ◌<◌, List, [], ◌∷◌, ◌++◌, flat_map, get_or, length, take, refl, sym, ap, ◌∙◌, arith}
use Rattle.std.proofs.lemmas.Bool.{cases_lt}
use Rattle.std.proofs.lemmas.List.{flat_map_more, get_or_append_left, get_or_default, get_or_push, length-append, take_more}
use Rattle.std.proofs.lemmas.List.Sums.{fold_more}
use Rattle.ad_kit.specs.ObjectFile.{begin_behind, end_of, padded, rela, relas_bytes, sections_bytes, stored, to_relas}
use Rattle.ad_kit.specs.Private.Written.{AreBegun, AreRelasBegun}
use Rattle.ad_kit.specs.declared.object.KitSection.{KitSection}

-- the bytes of one section more
pub sections_bytes-none : sections_bytes [] ≡ []
unfolding sections_bytes
sections_bytes-none = refl

pub sections_bytes-more : (ss : List KitSection) (k : ℕ) (s : KitSection) (old : List ℕ) → k < length ss → s ≡ get_or ss k s → old ≡ padded s.align (sections_bytes (take k ss)) → old ++ stored s ≡ sections_bytes (take (k + 1) ss)
unfolding sections_bytes
sections_bytes-more ss k s old below is before =
    ap (λ (b : List ℕ). b ++ stored s) before
    ∙ ap (λ (t : KitSection). padded t.align (sections_bytes (take k ss)) ++ stored t) is
    ∙ sym (fold_more (λ (body : List ℕ) (t : KitSection). padded t.align body ++ stored t) [] ss k s below)

pub relas_bytes-none : relas_bytes [] ≡ []
unfolding relas_bytes
relas_bytes-none = refl

pub relas_bytes-more : (ss : List KitSection) (k : ℕ) (d : KitSection) → k < length ss → relas_bytes (take k ss) ++ flat_map rela (get_or ss k d).relas ≡ relas_bytes (take (k + 1) ss)
unfolding relas_bytes
relas_bytes-more ss k d below =
    flat_map_more (λ (t : KitSection). flat_map rela t.relas) [] (take k ss) (get_or ss k d)
    ∙ ap (λ (xs : List KitSection). flat_map (λ (t : KitSection). flat_map rela t.relas) xs) (sym (take_more ss k d below))

-- where one section more begins
pub AreBegun-none : (ss : List KitSection) (places : List ℕ) → places ≡ [] → AreBegun ss 0 places
AreBegun-none ss places none = record { all = ap length none; each_one = λ j t below. absurd (omega arith) }

pub AreBegun-more : (ss : List KitSection) (k : ℕ) (s : KitSection) (old new : List ℕ) (at : ℕ) → k < length ss → s ≡ get_or ss k s → AreBegun ss k old → new ≡ old ++ at ∷ [] → at ≡ begin_behind s.align (sections_bytes (take k ss)) → AreBegun ss (k + 1) new
AreBegun-more ss k s old new at below is had pushed here = record {
  all = ap length pushed ∙ omega (arith, length-append old (at ∷ []), had.all);
  each_one = λ j t less.
      elim (cases_lt j k) [
        | inl before ↦ (ap (λ (xs : List ℕ). get_or xs j 0) pushed ∙ get_or_append_left old (at ∷ []) 0 j (omega (arith, had.all)) ∙ had.each_one j t before)
        | inr last ↦ (
            let same : j ≡ k = omega (arith, less, last) in
            let section : s ≡ get_or ss k t = is ∙ get_or_default ss k s t below in
            rw same (ap (λ (xs : List ℕ). get_or xs k 0) pushed ∙ get_or_push old at 0 k had.all ∙ here ∙ ap (λ (u : KitSection). begin_behind u.align (sections_bytes (take k ss))) section))
      ];
}

pub AreRelasBegun-none : (ss : List KitSection) (places : List ℕ) → places ≡ [] → AreRelasBegun ss 0 places
AreRelasBegun-none ss places none = record { all = ap length none; each_one = λ j below. absurd (omega arith) }

pub AreRelasBegun-more : (ss : List KitSection) (k : ℕ) (old new : List ℕ) (at : ℕ) → AreRelasBegun ss k old → new ≡ old ++ at ∷ [] → at ≡ end_of (to_relas ss ++ relas_bytes (take k ss)) → AreRelasBegun ss (k + 1) new
AreRelasBegun-more ss k old new at had pushed here = record {
  all = ap length pushed ∙ omega (arith, length-append old (at ∷ []), had.all);
  each_one = λ j less.
      elim (cases_lt j k) [
        | inl before ↦ (ap (λ (xs : List ℕ). get_or xs j 0) pushed ∙ get_or_append_left old (at ∷ []) 0 j (omega (arith, had.all)) ∙ had.each_one j before)
        | inr last ↦ (
            let same : j ≡ k = omega (arith, less, last) in
            rw same (ap (λ (xs : List ℕ). get_or xs k 0) pushed ∙ get_or_push old at 0 k had.all ∙ here))
      ];
}

-- one piece more of any list
pub pieces_more : {X : Type 0} (f : X → List ℕ) (before : List ℕ) (xs : List X) (k : ℕ) (d : X) (old new : List ℕ) → k < length xs → old ≡ before ++ flat_map f (take k xs) → new ≡ old ++ f (get_or xs k d) → new ≡ before ++ flat_map f (take (k + 1) xs)
pieces_more f before xs k d old new below had pushed =
    pushed ∙ ap (λ (b : List ℕ). b ++ f (get_or xs k d)) had ∙ flat_map_more f before (take k xs) (get_or xs k d) ∙ ap (λ ys. before ++ flat_map f ys) (sym (take_more xs k d below))
