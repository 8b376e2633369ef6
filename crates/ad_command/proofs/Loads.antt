-- Serving the chains that read files and those of what is built: one file, the script, one module, and the modules in turn.
use Rattle.std.proofs.Common.{◌≡◌, ◌⊎◌, ℕ, ◌+◌, ◌<◌, ◌≤◌, List, [], ◌∷◌, ◌++◌, length, replicate, Option, None, Some, IfSome, IfOk, IfErr, Result, Ok, Err, inl, inr, refl, sym, ap, subst, ◌∙◌, arith, append-nil, add-one, suc, drop, drop-cons, get_or}
use Rattle.std.specs.Prelude.{nat_lt, if◌then◌else◌}
use Rattle.std.specs.Result.{IsErrAnd}
use Rattle.std.proofs.lemmas.Bool.{lt-ltb, le-ltb}
use Rattle.std.proofs.Math.ListN.{drop_of_length-le}
use Rattle.std.proofs.lemmas.List.{length-replicate, length_push}
use Rattle.ad_base.specs.declared.place.Place.{Place}
use Rattle.ad_base.specs.Image.{IsWhole}
use Rattle.ad_base.specs.declared.image.Image.{Image}
use Rattle.ad_base.specs.declared.layout.TheConstants.{FILE_BYTES, MAPPINGS, MODULES, WORKERS}
use Rattle.ad_base.specs.declared.ledger.Kind.TheVariants.{Code, Fixed}
use Rattle.ad_base.specs.Count.{Rose}
use Rattle.ad_base.specs.Outside.{Outside, Tells, Told}
use Rattle.ad_base.specs.Image.{fixed_pages, movable_pages}
use Rattle.ad_generator.specs.Generated.{built_named}
use Rattle.ad_generator.specs.Script.{script_text}
use Rattle.ad_link.specs.declared.refusal.LinkRefusal.{LinkRefusal}
use Rattle.ad_link.specs.Plan.{IsPlan, IsRefused, IsRefusedAt, Planned}
use Rattle.ad_link.specs.Plan as planned
use Rattle.ad_reloc.specs.Image.{IsImage}
use Rattle.ad_lines.specs.Opening.{AreLoaded, opening_drawn}
use Rattle.ad_lines.proofs.LoadedPush.{drawn-push, loaded-none, loaded-push, seed-drawn}
use Rattle.ad_lines.proofs.Opens.{length-drawn}
use Rattle.ad_parts.specs.declared.layout.Sizes.{Sizes}
use Rattle.ad_place.specs.Choice.{Drawn, next_place, with_next}
use Rattle.ad_relate.specs.ClearHistory.{AreOffsets}
use Rattle.ad_script.specs.declared.script.Load.{Load}
use Rattle.ad_script.specs.declared.script.Script.{Script}
use Rattle.ad_script.specs.declared.refusal.ScriptRefusal.{ScriptRefusal}
use Rattle.ad_script.specs.Script.{script_of}
use Rattle.ad_command.specs.declared.trouble.Trouble.{Trouble}
use Rattle.ad_command.specs.declared.trouble.Trouble.TheVariants.{Memory, Read, TooLarge}
use Rattle.ad_command.specs.Chain.{Chain, Done, Found, ImageAt, IsFound, IsWrong, Judge, MayEnd, ModuleFile, Question, Refuse, Serves, each_in_turn, judged}
use Rattle.ad_command.specs.Loading.{built_of, file_of, fixed_behind, image_at, loaded_image, loaded_images, module_of, script_built, script_in}
use Rattle.ad_command.specs.Command.{shown_at, shown_in}
use Rattle.ad_command.specs.Trouble.{refused_module, refused_script}
use Rattle.ad_command.proofs.Chains.{memory, serves-behind, serves-done, serves-memory, serves-judge, serves-refuse, serves-refused}

-- a file that may be so long and isn't too long, and one that is
short-comes : (n : ℕ) (told : Told) (old new : ℕ) (name file : List ℕ) → length file ≤ n → new ≡ old
    → MayEnd told old new (if nat_lt n (length file) then Refuse (TooLarge name) else Done file) [] (Ok file)
short-comes n told old new name file short same = rw (le-ltb n (length file) short) (refl, same, inl refl)

long-comes : (n : ℕ) (told : Told) (old new : ℕ) (name file : List ℕ) → n < length file → new ≡ old
    → MayEnd told old new (if nat_lt n (length file) then Refuse (TooLarge name) else Done file) [] (Err (TooLarge name))
long-comes n told old new name file long same = rw (lt-ltb n (length file) long) (refl, same, inl refl)

-- some file is longer, whatever is told
some-longer : (n : ℕ) (told : Option (List ℕ)) → IfSome told (λ file. n < length file) → (file : List ℕ) × Tells told file × (n < length file)
some-longer n None long = (replicate (n + 1) 0, tt, omega (arith, length-replicate {A = ℕ} (n + 1) 0))
some-longer n (Some file) long = (file, refl, long)

-- the file of a name: it was read, it was too long, it couldn't be read, or there was no memory
pub file-read : (old new : Outside) (name file : List ℕ) → Tells (old.told name) file → length file ≤ FILE_BYTES → new.faults ≡ old.faults
    → IfSome old.asked (λ names. new.asked ≡ Some (names ++ name ∷ [])) → new.told ≡ old.told → Serves old new (file_of name) (Ok file)
unfolding file_of
file-read old new name file tells short faults asked same = record {
  names = name ∷ [];
  ends = inr (inr (file, [], refl, tells, short-comes FILE_BYTES old.told old.faults new.faults name file short faults));
  asked = asked;
  same = same;
}

pub file-long : (old new : Outside) (name : List ℕ) → IfSome (old.told name) (λ file. FILE_BYTES < length file) → new.faults ≡ old.faults
    → IfSome old.asked (λ names. new.asked ≡ Some (names ++ name ∷ [])) → new.told ≡ old.told → Serves old new (file_of name) (Err (TooLarge name))
unfolding file_of
file-long old new name long faults asked same =
    let file = some-longer FILE_BYTES (old.told name) long in
    record {
      names = name ∷ [];
      ends = inr (inr (file.0, [], refl, file.1, long-comes FILE_BYTES old.told old.faults new.faults name file.0 file.2 faults));
      asked = asked;
      same = same;
    }

pub file-failed : (old new : Outside) (name : List ℕ) → Rose old.faults new.faults
    → IfSome old.asked (λ names. new.asked ≡ Some (names ++ name ∷ [])) → new.told ≡ old.told → Serves old new (file_of name) (Err (Read name))
unfolding file_of
file-failed old new name rose asked same = record { names = name ∷ []; ends = inr (inl (refl, rose, refl)); asked = asked; same = same }

asked-nothing : (old new : Option (List (List ℕ))) → IfSome old (λ names. new ≡ Some names) → IfSome old (λ names. new ≡ Some (names ++ []))
asked-nothing None new h = tt
asked-nothing (Some names) new h = h ∙ ap Some (sym (append-nil names))

pub chain-wanting : {A : Type 0} (old new : Outside) (c : Chain A) → new.faults ≡ old.faults
    → IfSome old.asked (λ names. new.asked ≡ Some names) → new.told ≡ old.told → Serves old new c (Err Memory)
chain-wanting old new c faults asked same = record {
  names = [];
  ends = subst (λ n. MayEnd old.told old.faults n c [] (Err Memory)) (sym faults) (memory old.told old.faults c);
  asked = asked-nothing old.asked new.asked asked;
  same = same;
}

-- what was found, and what is wrong
found : (o : Outside) (q : Question) (trouble : LinkRefusal → Trouble) (v : Found q) → IsFound q v → Serves o o (Judge q (judged trouble)) (Ok v)
found o q trouble v is = serves-judge o o q (judged trouble) (Ok v) (Ok v) is (serves-done o v)

amiss : (o : Outside) (q : Question) (trouble : LinkRefusal → Trouble) (wrong : LinkRefusal) → IsWrong q wrong → Serves o o (Judge q (judged trouble)) (Err (trouble wrong))
amiss o q trouble wrong is = serves-judge o o q (judged trouble) (Err wrong) (Err (trouble wrong)) is (serves-refuse o (trouble wrong))

-- what is wrong with what was asked, told as a fault; or want of memory
abbrev pub IsTold : Question → (LinkRefusal → Trouble) → Trouble → Type 0
IsTold q trouble t = ((wrong : LinkRefusal) × IsWrong q wrong × (t ≡ trouble wrong)) ⊎ (t ≡ Memory)

-- the verdict on what was asked
pub judged-so : (o : Outside) (q : Question) (trouble : LinkRefusal → Trouble) (r : Result (Found q) Trouble)
    → IfOk r (IsFound q) → IfErr r (IsTold q trouble) → Serves o o (Judge q (judged trouble)) r
judged-so o q trouble (Ok v) ok err = found o q trouble v ok
judged-so o q trouble (Err t) ok (inl bad) = rw (bad.2) (amiss o q trouble bad.0 bad.1)
judged-so o q trouble (Err t) ok (inr wanting) = rw wanting (serves-memory o (Judge q (judged trouble)))

-- what the text of a script says
script-next : List ℕ → Chain Script
script-next text = judged refused_script (script_of text)

-- the script of a text, or why it is refused
script-said : (o : Outside) (text : List ℕ) (r : Result Script Trouble) → IfOk r (λ s. script_of text ≡ Ok s)
    → IfErr r (λ t. ((w : ScriptRefusal) × (script_of text ≡ Err w) × (t ≡ refused_script w)) ⊎ (t ≡ Memory)) → Serves o o (script-next text) r
unfolding script-next
script-said o text (Ok s) ok err = rw ok (serves-done o s)
script-said o text (Err t) ok (inl bad) = rw (bad.1, bad.2) (serves-refuse o (refused_script bad.0))
script-said o text (Err t) ok (inr wanting) = rw wanting (serves-memory o (script-next text))

-- the script that is built
pub script-made : (o : Outside) (number : ℕ) (r : Result Script Trouble)
    → IfOk r (λ s. script_of (script_text number) ≡ Ok s) → IfErr r (λ t. ((w : ScriptRefusal) × (script_of (script_text number) ≡ Err w) × (t ≡ refused_script w)) ⊎ (t ≡ Memory))
    → Serves o o (script_built number) r
unfolding script_built script-next
script-made o number r ok err = script-said o (script_text number) r ok err

-- a module that is built
pub module-made : (o : Outside) (name : List ℕ) (r : Result Planned Trouble)
    → IfOk r (IsPlan (built_named name)) → IfErr r (IsTold (ModuleFile (built_named name)) (refused_module name)) → Serves o o (built_of name) r
unfolding built_of
module-made o name r ok err = judged-so o (ModuleFile (built_named name)) (refused_module name) r ok err

module _ (old new : Outside) (name : List ℕ) where
  pub script-unread : (t : Trouble) → Serves old new (file_of name) (Err t) → Serves old new (script_in name) (Err t)
  unfolding script_in script-next
  script-unread t first = serves-refused old new (file_of name) script-next t first

  pub script-read : (text : List ℕ) (r : Result Script Trouble) → Serves old new (file_of name) (Ok text)
      → IfOk r (λ s. script_of text ≡ Ok s) → IfErr r (λ t. ((w : ScriptRefusal) × (script_of text ≡ Err w) × (t ≡ refused_script w)) ⊎ (t ≡ Memory))
      → Serves old new (script_in name) r
  unfolding script_in script-next
  script-read text r first ok err = serves-behind old new new (file_of name) script-next text r first (script-said new text r ok err)

  module-next : List ℕ → Chain Planned
  module-next file = Judge (ModuleFile file) (judged (refused_module name))

  pub module-unread : (t : Trouble) → Serves old new (file_of name) (Err t) → Serves old new (module_of name) (Err t)
  unfolding module_of module-next
  module-unread t first = serves-refused old new (file_of name) module-next t first

  pub module-read : (file : List ℕ) (r : Result Planned Trouble) → Serves old new (file_of name) (Ok file)
      → IfOk r (IsPlan file) → IfErr r (λ t. ((w : LinkRefusal) × IsRefused file w × (t ≡ refused_module name w)) ⊎ (t ≡ Memory))
      → Serves old new (module_of name) r
  unfolding module_of module-next
  module-read file r first ok err = serves-behind old new new (file_of name) module-next file r first (judged-so new (ModuleFile file) (refused_module name) r ok err)

-- what a plan's image at a place is said to be, or why it has none
module _ (name : List ℕ) (p : Planned) (fixed : Place) where
  pub image-judged : (o : Outside) (r : Result Image Trouble) → IfOk r (IsImage p.object p.layout p.tables fixed)
      → IfErr r (λ t. ((w : LinkRefusal) × IsRefusedAt fixed p w × (t ≡ refused_module name w)) ⊎ (t ≡ Memory))
      → Serves o o (image_at name p fixed) r
  unfolding image_at
  image-judged o r ok err = judged-so o (ImageAt p fixed) (refused_module name) r ok err

-- the image of a load, where the module in the file of a name is had so
module _ (had : List ℕ → Chain Planned) (seed workers : ℕ) (before : List Image) (l : Load) (old new : Outside) where
  pub image-refused : (t : Trouble) → Serves old new (had l.file) (Err t) → Serves old new (loaded_image had seed workers before l) (Err t)
  unfolding loaded_image
  image-refused t first = serves-refused old new (had l.file) (λ p. image_at l.file p (fixed_behind seed workers before p)) t first

  pub image-made : (p : Planned) (r : Result Image Trouble) (fixed : Place) → fixed ≡ fixed_behind seed workers before p → Serves old new (had l.file) (Ok p)
      → Serves new new (image_at l.file p fixed) r → Serves old new (loaded_image had seed workers before l) r
  unfolding loaded_image
  image-made p r fixed same first second =
      serves-behind old new new (had l.file) (λ q. image_at l.file q (fixed_behind seed workers before q)) p r first
      (subst (λ at. Serves new new (image_at l.file p at) r) same second)

-- the image of a module that is shown
module _ (name : List ℕ) (old new : Outside) where
  pub show-refused : (t : Trouble) → Serves old new (module_of name) (Err t) → Serves old new (shown_in name) (Err t)
  unfolding shown_in
  show-refused t first = serves-refused old new (module_of name) (λ p. image_at name p (shown_at (planned.fixed_pages p.layout.sizes))) t first

  pub show-made : (p : Planned) (r : Result Image Trouble) (fixed : Place) → fixed ≡ shown_at (planned.fixed_pages p.layout.sizes) → Serves old new (module_of name) (Ok p)
      → Serves new new (image_at name p fixed) r → Serves old new (shown_in name) r
  unfolding shown_in
  show-made p r fixed same first second =
      serves-behind old new new (module_of name) (λ q. image_at name q (shown_at (planned.fixed_pages q.layout.sizes))) p r first
      (subst (λ at. Serves new new (image_at name p at) r) same second)

-- A chain of a step for each of a list, as far as it has come: what is left of it serves it all.
pub record GoesOn {A B : Type 0} (f : List B → A → Chain B) (start now : Outside) (done : List B) (left all : List A) : Type 0 where
  pub serves : (end : Outside) (r : Result (List B) Trouble) → Serves now end (each_in_turn f done left) r → Serves start end (each_in_turn f [] all) r

module _ {A B : Type 0} (f : List B → A → Chain B) (start now : Outside) (done : List B) (all : List A) where
  pub goes-further : (new : Outside) (x : A) (left : List A) (y : B) → GoesOn f start now done (x ∷ left) all → Serves now new (f done x) (Ok y) → GoesOn f start new (done ++ y ∷ []) left all
  unfolding each_in_turn
  goes-further new x left y goes step = record {
    serves = λ end r later. goes.serves end r (serves-behind now new end (f done x) (λ z. each_in_turn f (done ++ z ∷ []) left) y r step later);
  }

  pub goes-wrong : (new : Outside) (x : A) (left : List A) (t : Trouble) → GoesOn f start now done (x ∷ left) all → Serves now new (f done x) (Err t) → Serves start new (each_in_turn f [] all) (Err t)
  unfolding each_in_turn
  goes-wrong new x left t goes step = goes.serves new (Err t) (serves-refused now new (f done x) (λ z. each_in_turn f (done ++ z ∷ []) left) t step)

  pub goes-wanting : (left : List A) → GoesOn f start now done left all → Serves start now (each_in_turn f [] all) (Err Memory)
  goes-wanting left goes = goes.serves now (Err Memory) (serves-memory now (each_in_turn f done left))

  pub goes-done : GoesOn f start now done [] all → Serves start now (each_in_turn f [] all) (Ok done)
  unfolding each_in_turn
  goes-done goes = goes.serves now (Ok done) (serves-done now done)

pub goes-from : {A B : Type 0} (f : List B → A → Chain B) (start : Outside) (all : List A) → GoesOn f start start [] all all
goes-from f start all = record { serves = λ end r later. later }

-- an error that was handed on
pub handed_on : {A : Type 0} (r : Result A Trouble) (u : Trouble) → IsErrAnd r (λ t. t ≡ u) → r ≡ Err u
handed_on (Ok a) u is = absurd is
handed_on (Err t) u is = ap Err is

-- a module that was loaded behind others, and the two places that were drawn for it
pub module-loaded : (seed workers : ℕ) (before : List Image) (z : Sizes) (drawn : Drawn) (fixed : Place) (i : Image) → drawn ≡ opening_drawn seed workers before
    → fixed ≡ next_place drawn Fixed (planned.fixed_pages z) → IsWhole i → AreOffsets i → i.fixed ≡ fixed → fixed.pages ≡ planned.fixed_pages z → movable_pages i ≡ planned.movable_pages z
    → AreLoaded seed workers before → length before < MODULES
    → AreLoaded seed workers (before ++ i ∷ []) × (with_next (with_next drawn Fixed (planned.fixed_pages z)) Code (planned.movable_pages z) ≡ opening_drawn seed workers (before ++ i ∷ []))
module-loaded seed workers before z drawn fixed i at chosen whole offsets lies pages movable loaded few =
    let size : planned.fixed_pages z ≡ fixed_pages i = sym pages ∙ ap (λ (p : Place). p.pages) (sym lies) ∙ whole.fixed_size in
    let there : i.fixed ≡ next_place (opening_drawn seed workers before) Fixed (fixed_pages i) = lies ∙ chosen ∙ (λ j. next_place (at j) Fixed (size j)) in
    let are : AreLoaded seed workers (before ++ i ∷ []) = loaded-push seed workers before i loaded few whole offsets there in
    (are, (λ j. with_next (with_next (at j) Fixed (size j)) Code (sym movable j)) ∙ sym (drawn-push seed workers before i))

-- the modules of a script that are had so, as far as they are loaded
pub record IsLoading (had : List ℕ → Chain Planned) (seed : ℕ) (s : Script) (start now : Outside) (placer : Drawn) (images : List Image) (i : ℕ) : Type 0 where
  pub goes : GoesOn (loaded_image had seed s.workers) start now images (drop i s.loads) s.loads
  pub drawn : placer ≡ opening_drawn seed s.workers images
  pub loaded : AreLoaded seed s.workers images
  pub count : length images ≡ i
  pub no_more : i ≤ length s.loads

module _ (had : List ℕ → Chain Planned) (seed : ℕ) (s : Script) (start now : Outside) (placer : Drawn) (images : List Image) (i : ℕ) (is : IsLoading had seed s start now placer images i) where
  pub loading-seed : placer.seed ≡ seed
  loading-seed = ap (λ (d : Drawn). d.seed) is.drawn ∙ seed-drawn seed s.workers images

  pub loading-each : length s.loads ≤ i → length s.loads ≡ length images
  loading-each end = omega (arith, end, is.count, is.no_more)

  pub loading-drawn : placer ≡ opening_drawn placer.seed s.workers images
  loading-drawn = subst (λ n. placer ≡ opening_drawn n s.workers images) (sym loading-seed) is.drawn

  pub loading-room : i < length s.loads → length s.loads ≤ MODULES → length placer.places + 2 ≤ MAPPINGS
  loading-room within few =
      let places = ap (λ (d : Drawn). length d.places) is.drawn in
      omega (arith, places, length-drawn seed s.workers images is.loaded, is.count, is.loaded.few_workers)

  module _ (l : Load) (within : i < length s.loads) (at : l ≡ get_or s.loads i l) where
    left : drop i s.loads ≡ l ∷ drop (i + 1) s.loads
    left = rw add-one (drop-cons s.loads i l within ∙ ap (λ x. x ∷ drop (suc i) s.loads) (sym at))

    goes-on : GoesOn (loaded_image had seed s.workers) start now images (l ∷ drop (i + 1) s.loads) s.loads
    goes-on = subst (λ ls. GoesOn (loaded_image had seed s.workers) start now images ls s.loads) left is.goes

    pub loading-next : (new : Outside) (after : Drawn) (image : Image) → length s.loads ≤ MODULES
        → ((workers : ℕ) (before : List Image) → placer ≡ opening_drawn placer.seed workers before → Serves now new (loaded_image had placer.seed workers before l) (Ok image))
        → ((workers : ℕ) (before : List Image) → AreLoaded placer.seed workers before → length before < MODULES → placer ≡ opening_drawn placer.seed workers before
        → AreLoaded placer.seed workers (before ++ image ∷ []) × (after ≡ opening_drawn placer.seed workers (before ++ image ∷ [])))
        → IsLoading had seed s start new after (images ++ image ∷ []) (i + 1)
    loading-next new after image few serves loads =
        let so_far : AreLoaded placer.seed s.workers images = subst (λ n. AreLoaded n s.workers images) (sym loading-seed) is.loaded in
        let all = loads s.workers images so_far (omega (arith, is.count)) loading-drawn in
        record {
          goes = goes-further (loaded_image had seed s.workers) start now images s.loads new l (drop (i + 1) s.loads) image goes-on (subst (λ n. Serves now new (loaded_image had n s.workers images l) (Ok image)) loading-seed (serves s.workers images loading-drawn));
          drawn = subst (λ n. after ≡ opening_drawn n s.workers (images ++ image ∷ [])) loading-seed all.1;
          loaded = subst (λ n. AreLoaded n s.workers (images ++ image ∷ [])) loading-seed all.0;
          count = omega (arith, length_push images image, is.count);
          no_more = omega (arith, within);
        }

    pub loading-wrong : (new : Outside) (t : Trouble) → ((workers : ℕ) (before : List Image) → placer ≡ opening_drawn placer.seed workers before → Serves now new (loaded_image had placer.seed workers before l) (Err t))
        → Serves start new (loaded_images had seed s) (Err t)
    unfolding loaded_images
    loading-wrong new t serves = let step = serves s.workers images loading-drawn in goes-wrong (loaded_image had seed s.workers) start now images s.loads new l (drop (i + 1) s.loads) t goes-on (subst (λ n. Serves now new (loaded_image had n s.workers images l) (Err t)) loading-seed step)

  pub loading-wanting : Serves start now (loaded_images had seed s) (Err Memory)
  unfolding loaded_images
  loading-wanting = goes-wanting (loaded_image had seed s.workers) start now images s.loads (drop i s.loads) is.goes

  pub loading-done : length s.loads ≤ i → Serves start now (loaded_images had seed s) (Ok images)
  unfolding loaded_images
  loading-done end = goes-done (loaded_image had seed s.workers) start now images s.loads (subst (λ ls. GoesOn (loaded_image had seed s.workers) start now images ls s.loads) (drop_of_length-le s.loads end) is.goes)

pub loading-from : (had : List ℕ → Chain Planned) (seed : ℕ) (s : Script) (start : Outside) (placer : Drawn) → 1 ≤ s.workers → s.workers ≤ WORKERS → placer ≡ opening_drawn seed s.workers [] → IsLoading had seed s start start placer [] 0
loading-from had seed s start placer some few drawn = record { goes = goes-from (loaded_image had seed s.workers) start s.loads; drawn = drawn; loaded = loaded-none seed s.workers some few; count = refl; no_more = omega arith }
