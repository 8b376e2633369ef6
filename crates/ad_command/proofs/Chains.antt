-- Serving chains: a step behind another, want of memory anywhere, and one answer where the files are told.
use Rattle.std.proofs.Common.{◌≡◌, ◌⊎◌, ℕ, List, [], ◌∷◌, ◌++◌, Option, None, Some, IfSome, Result, Ok, Err, inl, inr, ⊎_elim, refl, sym, ap, subst, ◌∙◌, append_assoc, append-nil}
use Rattle.ad_base.specs.Outside.{Outside, Told}
use Rattle.ad_link.specs.Plan.{IsRefusedAt, Planned}
use Rattle.ad_link.specs.declared.refusal.LinkRefusal.{LinkRefusal}
use Rattle.ad_link.specs.declared.refusal.LinkRefusal.TheVariants as refusal
use Rattle.ad_link.proofs.OneAnswer.{not_both, one_plan, one_refusal}
use Rattle.ad_base.specs.declared.image.Image.{Image}
use Rattle.ad_base.specs.declared.place.Place.{Place}
use Rattle.ad_reloc.specs.Image.{IsImage}
use Rattle.ad_reloc.proofs.OneImage.{one_image}
use Rattle.ad_reloc.proofs.OneImage as image
use Rattle.ad_command.specs.declared.trouble.Trouble.{Trouble}
use Rattle.ad_command.specs.declared.trouble.Trouble.TheVariants.{Memory, Read}
use Rattle.ad_command.specs.Chain.{AreTold, Ask, Chain, Done, Gives, ImageAt, IsVerdict, Judge, MayEnd, ModuleFile, Question, Refuse, Serves, Verdict, ◌>>=◌}

-- memory may be wanting at any step
pub memory : {A : Type 0} (told : Told) (n : ℕ) (c : Chain A) → MayEnd told n n c [] (Err Memory)
memory told n (Done a) = (refl, refl, inr refl)
memory told n (Refuse t) = (refl, refl, inr refl)
memory told n (Ask name next) = inl (refl, refl, refl)
memory told n (Judge q next) = inl (refl, refl, refl)

module _ {A B : Type 0} (told : Told) (f : A → Chain B) where
  -- where the first chain is done, the second goes on
  pub behind : (old mid new : ℕ) (c : Chain A) (names more : List (List ℕ)) (a : A) (r : Result B Trouble) → MayEnd told old mid c names (Ok a) → MayEnd told mid new (f a) more r → MayEnd told old new (c >>= f) (names ++ more) r
  behind old mid new (Done b) names more a r first second = ⊎_elim
      (λ ok.
      let same : a ≡ b = cc in
      let at : MayEnd told mid new (f b) more r = subst (λ x. MayEnd told mid new (f x) more r) same second in
      let from : MayEnd told old new (f b) more r = subst (λ n. MayEnd told n new (f b) more r) first.1 at in
      subst (λ ns. MayEnd told old new (f b) (ns ++ more) r) (sym first.0) from)
      (λ err. absurd cc) first.2
  behind old mid new (Refuse t) names more a r first second = ⊎_elim (λ x. absurd cc) (λ x. absurd cc) first.2
  behind old mid new (Ask name next) names more a r (inl none) second = absurd (let e = none.2 in cc)
  behind old mid new (Ask name next) names more a r (inr (inl failed)) second = absurd (let e = failed.2 in cc)
  behind old mid new (Ask name next) names more a r (inr (inr read)) second =
      inr (inr (read.0, read.1 ++ more, ap (λ ns. ns ++ more) read.2, read.3, behind old mid new (next read.0) read.1 more a r read.4 second))
  behind old mid new (Judge q next) names more a r (inl none) second = absurd (let e = none.2 in cc)
  behind old mid new (Judge q next) names more a r (inr means) second = inr (means.0, means.1, behind old mid new (next means.0) names more a r means.2 second)

  -- where the first chain is refused, so are both
  pub refused : (old new : ℕ) (c : Chain A) (names : List (List ℕ)) (t : Trouble) → MayEnd told old new c names (Err t) → MayEnd told old new (c >>= f) names (Err t)
  refused old new (Done b) names t first = ⊎_elim
      (λ ok. absurd cc)
      (λ err.
      let at : MayEnd told old old (f b) [] (Err Memory) = memory told old (f b) in
      let same : t ≡ Memory = cc in
      let wanting : MayEnd told old old (f b) [] (Err t) = subst (λ u. MayEnd told old old (f b) [] (Err u)) (sym same) at in
      let from : MayEnd told old new (f b) [] (Err t) = subst (λ n. MayEnd told old n (f b) [] (Err t)) (sym first.1) wanting in
      subst (λ ns. MayEnd told old new (f b) ns (Err t)) (sym first.0) from)
      first.2
  refused old new (Refuse u) names t first = ⊎_elim
      (λ e. let same : t ≡ u = cc in (first.0, first.1, inl (ap Err same)))
      (λ e. let same : t ≡ Memory = cc in (first.0, first.1, inr (ap Err same))) first.2
  refused old new (Ask name next) names t (inl none) = let e : t ≡ Memory = (let h = none.2 in cc) in inl (none.0, none.1, ap Err e)
  refused old new (Ask name next) names t (inr (inl failed)) = let e : t ≡ Read name = (let h = failed.2 in cc) in inr (inl (failed.0, failed.1, ap Err e))
  refused old new (Ask name next) names t (inr (inr read)) = inr (inr (read.0, read.1, read.2, read.3, refused old new (next read.0) read.1 t read.4))
  refused old new (Judge q next) names t (inl none) = let e : t ≡ Memory = (let h = none.2 in cc) in inl (none.0, none.1, ap Err e)
  refused old new (Judge q next) names t (inr means) = inr (means.0, means.1, refused old new (next means.0) names t means.2)

-- the same over the whole outside
asked-both : (old mid new : Option (List (List ℕ))) (names more : List (List ℕ)) → IfSome old (λ before. mid ≡ Some (before ++ names)) → IfSome mid (λ before. new ≡ Some (before ++ more)) → IfSome old (λ before. new ≡ Some (before ++ (names ++ more)))
asked-both None mid new names more first second = tt
asked-both (Some before) mid new names more first second =
    let h : IfSome (Some (before ++ names)) (λ b. new ≡ Some (b ++ more)) = subst (λ o. IfSome o (λ b. new ≡ Some (b ++ more))) first second in
    h ∙ ap Some (append_assoc before names more)

asked-none : (old : Option (List (List ℕ))) → IfSome old (λ before. old ≡ Some (before ++ []))
asked-none None = tt
asked-none (Some before) = ap Some (sym (append-nil before))

pub serves-behind : {A B : Type 0} (old mid new : Outside) (c : Chain A) (f : A → Chain B) (a : A) (r : Result B Trouble) → Serves old mid c (Ok a) → Serves mid new (f a) r → Serves old new (c >>= f) r
serves-behind old mid new c f a r first second = record {
  names = first.names ++ second.names;
  ends = behind old.told f old.faults mid.faults new.faults c first.names second.names a r first.ends (subst (λ told. MayEnd told mid.faults new.faults (f a) second.names r) first.same second.ends);
  asked = asked-both old.asked mid.asked new.asked first.names second.names first.asked second.asked;
  same = second.same ∙ first.same;
}

pub serves-refused : {A B : Type 0} (old new : Outside) (c : Chain A) (f : A → Chain B) (t : Trouble) → Serves old new c (Err t) → Serves old new (c >>= f) (Err t)
serves-refused old new c f t first = record {
  names = first.names;
  ends = refused old.told f old.faults new.faults c first.names t first.ends;
  asked = first.asked;
  same = first.same;
}

-- a chain that has come to its end without a file
pub serves-done : {A : Type 0} (o : Outside) (a : A) → Serves o o (Done a) (Ok a)
serves-done o a = record { names = []; ends = (refl, refl, inl refl); asked = asked-none o.asked; same = refl }

pub serves-refuse : {A : Type 0} (o : Outside) (t : Trouble) → Serves {A = A} o o (Refuse t) (Err t)
serves-refuse o t = record { names = []; ends = (refl, refl, inl refl); asked = asked-none o.asked; same = refl }

pub serves-memory : {A : Type 0} (o : Outside) (c : Chain A) → Serves o o c (Err Memory)
serves-memory o c = record { names = []; ends = memory o.told o.faults c; asked = asked-none o.asked; same = refl }

-- a chain that goes on with a verdict
pub serves-judge : {A : Type 0} (old new : Outside) (q : Question) (next : Verdict q → Chain A) (v : Verdict q) (r : Result A Trouble) → IsVerdict q v → Serves old new (next v) r → Serves old new (Judge q next) r
serves-judge old new q next v r is s = record { names = s.names; ends = inr (v, is, s.ends); asked = s.asked; same = s.same }

-- a plan is refused in one way at a place, and not where it has an image there
refused-once : (p : Planned) (fixed : Place) (r s : LinkRefusal) → IsRefusedAt fixed p r → IsRefusedAt fixed p s → r ≡ s
refused-once p fixed (refusal.Object a) s h k = absurd h
refused-once p fixed (refusal.Parts a) s h k = absurd h
refused-once p fixed (refusal.Tables a) s h k = absurd h
refused-once p fixed (refusal.Reloc a) (refusal.Object b) h k = absurd k
refused-once p fixed (refusal.Reloc a) (refusal.Parts b) h k = absurd k
refused-once p fixed (refusal.Reloc a) (refusal.Tables b) h k = absurd k
refused-once p fixed (refusal.Reloc a) (refusal.Reloc b) h k = ap refusal.Reloc (image.one_refusal p.object p.layout p.tables fixed a b h k)
refused-once p fixed (refusal.Reloc a) refusal.OutOfMemory h k = absurd k
refused-once p fixed refusal.OutOfMemory s h k = absurd h

image-or-refused : (p : Planned) (fixed : Place) (i : Image) (r : LinkRefusal) → IsImage p.object p.layout p.tables fixed i → IsRefusedAt fixed p r → ⊥
image-or-refused p fixed i (refusal.Object a) h k = k
image-or-refused p fixed i (refusal.Parts a) h k = k
image-or-refused p fixed i (refusal.Tables a) h k = k
image-or-refused p fixed i (refusal.Reloc a) h k = image.not_both p.object p.layout p.tables fixed i a h k
image-or-refused p fixed i refusal.OutOfMemory h k = k

-- a question has one verdict
pub one_verdict : (q : Question) (v w : Verdict q) → IsVerdict q v → IsVerdict q w → v ≡ w
one_verdict (ModuleFile bytes) (Ok p) (Ok q) h k = ap Ok (one_plan bytes p q h k)
one_verdict (ModuleFile bytes) (Ok p) (Err r) h k = absurd (not_both bytes p r h k)
one_verdict (ModuleFile bytes) (Err r) (Ok p) h k = absurd (not_both bytes p r k h)
one_verdict (ModuleFile bytes) (Err r) (Err s) h k = ap Err (one_refusal bytes r s h k)
one_verdict (ImageAt p fixed) (Ok i) (Ok j) h k = ap Ok (one_image p.object p.layout p.tables fixed i j h k)
one_verdict (ImageAt p fixed) (Ok i) (Err r) h k = absurd (image-or-refused p fixed i r h k)
one_verdict (ImageAt p fixed) (Err r) (Ok i) h k = absurd (image-or-refused p fixed i r k h)
one_verdict (ImageAt p fixed) (Err r) (Err s) h k = ap Err (refused-once p fixed r s h k)

-- what a chain may come to where its files are told: its answer, but for want of memory and a failed read, by the names
-- that it asks for or the first of them
pub record IsDue {A : Type 0} (names all : List (List ℕ)) (r due : Result A Trouble) : Type 0 where
  pub end : (r ≡ due) ⊎ (r ≡ Err Memory) ⊎ ((before after : List (List ℕ)) × (name : List ℕ) × (all ≡ before ++ name ∷ after) × (r ≡ Err (Read name)))
  pub rest : List (List ℕ)
  pub first : names ++ rest ≡ all

-- a name behind another
later-end : {A : Type 0} (name : List ℕ) (more all : List (List ℕ)) (r d : Result A Trouble) → all ≡ name ∷ more
    → (r ≡ d) ⊎ (r ≡ Err Memory) ⊎ ((before after : List (List ℕ)) × (n : List ℕ) × (more ≡ before ++ n ∷ after) × (r ≡ Err (Read n)))
    → (r ≡ d) ⊎ (r ≡ Err Memory) ⊎ ((before after : List (List ℕ)) × (n : List ℕ) × (all ≡ before ++ n ∷ after) × (r ≡ Err (Read n)))
later-end name more all r d split (inl same) = inl same
later-end name more all r d split (inr (inl wanting)) = inr (inl wanting)
later-end name more all r d split (inr (inr read)) = inr (inr (name ∷ read.0, read.1, read.2, split ∙ ap (λ ns. name ∷ ns) read.3, read.4))

pub due : {A : Type 0} (told : Told) (files : List ℕ → List ℕ) (old new : ℕ) (c : Chain A) (names all : List (List ℕ)) (r d : Result A Trouble) → MayEnd told old new c names r → Gives files c all d → AreTold told files all → IsDue names all r d
due told files old new (Done a) names all r d comes gives are = record {
  end = ⊎_elim (λ e. inl (e ∙ sym gives.1)) (λ e. inr (inl e)) comes.2;
  rest = [];
  first = append-nil names ∙ comes.0 ∙ sym gives.0;
}
due told files old new (Refuse t) names all r d comes gives are = record {
  end = ⊎_elim (λ e. inl (e ∙ sym gives.1)) (λ e. inr (inl e)) comes.2;
  rest = [];
  first = append-nil names ∙ comes.0 ∙ sym gives.0;
}
due told files old new (Ask name next) names all r d (inl none) gives are = record { end = inr (inl none.2); rest = all; first = ap (λ ns. ns ++ all) none.0 }
due told files old new (Ask name next) names all r d (inr (inl failed)) gives are = record { end = inr (inr ([], gives.0, name, gives.1, failed.2)); rest = gives.0; first = ap (λ ns. ns ++ gives.0) failed.0 ∙ sym gives.1 }
due told files old new (Ask name next) names all r d (inr (inr read)) gives are =
    let both : AreTold told files (name ∷ gives.0) = subst (AreTold told files) gives.1 are in
    let bytes : IfSome (Some (files name)) (λ b. b ≡ read.0) = subst (λ o. IfSome o (λ b. b ≡ read.0)) both.0 read.3 in
    let goes : MayEnd told old new (next (files name)) read.1 r = subst (λ file. MayEnd told old new (next file) read.1 r) (sym bytes) read.4 in
    let later = due told files old new (next (files name)) read.1 gives.0 r d goes gives.2 both.1 in
    record { end = later-end name gives.0 all r d gives.1 later.end; rest = later.rest; first = ap (λ ns. ns ++ later.rest) read.2 ∙ ap (λ ns. name ∷ ns) later.first ∙ sym gives.1 }
due told files old new (Judge q next) names all r d (inl none) gives are = record { end = inr (inl none.2); rest = all; first = ap (λ ns. ns ++ all) none.0 }
due told files old new (Judge q next) names all r d (inr means) gives are =
    let same = one_verdict q means.0 gives.0 means.1 gives.1 in
    due told files old new (next gives.0) names all r d (subst (λ m. MayEnd told old new (next m) names r) same means.2) gives.2 are

-- over files of these bytes a chain has one answer, and asks for the same names
pub one_answer : {A : Type 0} (files : List ℕ → List ℕ) (c : Chain A) (names more : List (List ℕ)) (d e : Result A Trouble) → Gives files c names d → Gives files c more e → (names ≡ more) × (d ≡ e)
one_answer files (Done a) names more d e g h = (g.0 ∙ sym h.0, g.1 ∙ sym h.1)
one_answer files (Refuse t) names more d e g h = (g.0 ∙ sym h.0, g.1 ∙ sym h.1)
one_answer files (Ask name next) names more d e g h =
    let later = one_answer files (next (files name)) g.0 h.0 d e g.2 h.2 in
    (g.1 ∙ ap (λ ns. name ∷ ns) later.0 ∙ sym h.1, later.1)
one_answer files (Judge q next) names more d e g h =
    let same = one_verdict q g.0 h.0 g.1 h.1 in
    one_answer files (next h.0) names more d e (subst (λ v. Gives files (next v) names d) same g.2) h.2

-- one chain behind the other gives what the second does, where the first is done
pub gives-behind : {A B : Type 0} (files : List ℕ → List ℕ) (c : Chain A) (f : A → Chain B) (names more : List (List ℕ)) (a : A) (r : Result B Trouble) → Gives files c names (Ok a) → Gives files (f a) more r → Gives files (c >>= f) (names ++ more) r
gives-behind files (Done b) f names more a r first second =
    let same : a ≡ b = (let e = first.1 in cc) in
    let at : Gives files (f b) more r = subst (λ x. Gives files (f x) more r) same second in
    subst (λ ns. Gives files (f b) (ns ++ more) r) (sym first.0) at
gives-behind files (Refuse t) f names more a r first second = absurd (let e = first.1 in cc)
gives-behind files (Ask name next) f names more a r first second =
    (first.0 ++ more, ap (λ ns. ns ++ more) first.1, gives-behind files (next (files name)) f first.0 more a r first.2 second)
gives-behind files (Judge q next) f names more a r first second =
    (first.0, first.1, gives-behind files (next first.0) f names more a r first.2 second)

-- where the second asks for nothing more
pub gives-last : {A B : Type 0} (files : List ℕ → List ℕ) (c : Chain A) (f : A → Chain B) (names : List (List ℕ)) (a : A) (r : Result B Trouble) → Gives files c names (Ok a) → Gives files (f a) [] r → Gives files (c >>= f) names r
gives-last files c f names a r first second = subst (λ ns. Gives files (c >>= f) ns r) (append-nil names) (gives-behind files c f names [] a r first second)
