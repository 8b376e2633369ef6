-- Lists of words, seen as texts.
use Rattle.std.proofs.Common.{◌≡◌, ℕ, ◌-◌, ◌<◌, ◌≤◌, Bool, true, false, List, [], ◌∷◌, length, take, drop, get_or, bytes_eq, refl, sym, ap, ◌∙◌, arith, ◌||◌}
use Rattle.std.specs.Borrow.{Bor}
use Rattle.std.specs.List.{list_all, list_any}
use Rattle.std.proofs.lemmas.List.{get_or-map, length-map, take_all}
use Rattle.std.proofs.lemmas.List.Folds.{list_all_at, list_any_at}
use Rattle.ad_script.specs.Private.Seen.{texts}
use Rattle.ad_script.specs.Script.{has_repeats}

-- names of which one stands first, and those behind it
module _ (names : List (Bor (List ℕ))) (d : Bor (List ℕ)) (some : 1 ≤ length names) where
  abbrev later : List (Bor (List ℕ))
  later = take (length names - 1) (drop 1 names)

  repeats_more : has_repeats (texts names) ≡ (list_any (bytes_eq (get_or names 0 d).now) (texts later) || has_repeats (texts later))
  unfolding has_repeats
  repeats_more = from names some
    where
      from : (xs : List (Bor (List ℕ))) → 1 ≤ length xs
          → has_repeats (texts xs) ≡ (list_any (bytes_eq (get_or xs 0 d).now) (texts (take (length xs - 1) (drop 1 xs))) || has_repeats (texts (take (length xs - 1) (drop 1 xs))))
      from [] more = absurd (omega arith)
      from (x ∷ xs) more =
          ap (λ (rest : List (Bor (List ℕ))). list_any (bytes_eq x.now) (texts rest) || has_repeats (texts rest)) (sym (take_all (length (x ∷ xs) - 1) xs (omega arith)))

  pub repeats_found : list_any (bytes_eq (get_or names 0 d).now) (texts later) ≡ true → has_repeats (texts names) ≡ true
  repeats_found found = repeats_more ∙ ap (λ b. b || has_repeats (texts later)) found

  pub repeats_later : list_any (bytes_eq (get_or names 0 d).now) (texts later) ≡ false → has_repeats (texts later) ≡ has_repeats (texts names)
  repeats_later found = sym (repeats_more ∙ ap (λ b. b || has_repeats (texts later)) found)

-- a test of one word settles that of all
pub any_at : (test : List ℕ → Bool) (words : List (Bor (List ℕ))) (i : ℕ) (d : Bor (List ℕ)) → i < length words → test (get_or words i d).now ≡ true → list_any test (texts words) ≡ true
any_at test words i d within e = list_any_at test (texts words) i d.now (omega (arith, length-map words (λ (w : Bor (List ℕ)). w.now))) (ap test (get_or-map (λ (w : Bor (List ℕ)). w.now) words i d d.now within) ∙ e)

pub all_at : (test : List ℕ → Bool) (words : List (Bor (List ℕ))) (i : ℕ) (d : Bor (List ℕ)) → i < length words → test (get_or words i d).now ≡ false → list_all test (texts words) ≡ false
all_at test words i d within e = list_all_at test (texts words) i d.now (omega (arith, length-map words (λ (w : Bor (List ℕ)). w.now))) (ap test (get_or-map (λ (w : Bor (List ℕ)). w.now) words i d d.now within) ∙ e)

-- a test of texts is one of what refers to them
pub any_text : (test : List ℕ → Bool) (words : List (Bor (List ℕ))) → list_any (λ w. test w.now) words ≡ list_any test (texts words)
any_text test [] = refl
any_text test (word ∷ words) = ap (λ b. test word.now || b) (any_text test words)

pub no_repeats : (names : List (Bor (List ℕ))) → length names < 1 → has_repeats (texts names) ≡ false
unfolding has_repeats
no_repeats [] none = refl
no_repeats (name ∷ names) none = absurd (omega arith)
