-- What is due where the files are told: the fault, and the names that are asked for.
use Rattle.std.proofs.Common.{◌≡◌, ◌≢◌, ◌⊎◌, ⊎_elim, ℕ, List, [], ◌∷◌, ◌++◌, Option, None, Some, IfSome, Result, Ok, Err, inl, inr, is_some, refl, sym, ap, subst, ◌∙◌, append_assoc}
use Rattle.ad_base.specs.Count.{Rose}
use Rattle.ad_base.specs.Outside.{Outside, Output}
use Rattle.ad_command.specs.declared.trouble.Trouble.{Trouble}
use Rattle.ad_command.specs.declared.trouble.Trouble.TheVariants.{Memory, Read, TooLarge, Write}
use Rattle.ad_command.specs.declared.serve.Ended.{Ended}
use Rattle.ad_command.specs.Chain.{AreTold, Chain, Gives, MayEnd, Serves}
use Rattle.ad_command.specs.Command.{Work, begins_with_run, command}
use Rattle.ad_command.specs.Served.{Answers, AskedLast, AsksFirstOf, Leaves, LeavesDone, Served, WasDone, Writes, ending_of, fault_of}
use Rattle.ad_command.specs.Trouble.{status_of}
use Rattle.ad_command.proofs.Chains.{IsDue, due}
use Rattle.ad_command.proofs.Frank.{IsFrank, count-stays, frank-command, large-asked, no-write, read-rose}
use Rattle.ad_command.proofs.Tables.{beside-by-word, no-table, table-beside}

asks-first : (old new : Option (List (List ℕ))) (names rest all : List (List ℕ)) → names ++ rest ≡ all → IfSome old (λ before. new ≡ Some (before ++ names)) → AsksFirstOf old new all
asks-first None new names rest all first asked = tt
asks-first (Some before) new names rest all first asked = (names, rest, first, asked)

fault-due : {A : Type 0} (r d : Result A Trouble) (names : List (List ℕ))
    → (r ≡ d) ⊎ (r ≡ Err Memory) ⊎ ((before after : List (List ℕ)) × (name : List ℕ) × (names ≡ before ++ name ∷ after) × (r ≡ Err (Read name)))
    → Answers (fault_of r) (fault_of d) names
fault-due r d names (inl same) = inl (ap fault_of same)
fault-due r d names (inr (inl wanting)) = inr (inl (ap fault_of wanting))
fault-due r d names (inr (inr failed)) = inr (inr (inl (failed.0, failed.1, failed.2, failed.3, ap fault_of failed.4)))

-- a chain that was done is done by its answer too
done-due : {A : Type 0} (r d : Result A Trouble) (j : A) (names : List (List ℕ)) → r ≡ Ok j
    → (r ≡ d) ⊎ (r ≡ Err Memory) ⊎ ((before after : List (List ℕ)) × (name : List ℕ) × (names ≡ before ++ name ∷ after) × (r ≡ Err (Read name)))
    → fault_of d ≡ None
done-due r d j names done (inl same) = ap fault_of (sym same ∙ done)
done-due r d j names done (inr (inl wanting)) = absurd cc
done-due r d j names done (inr (inr failed)) = absurd (let e = failed.4 in cc)

-- a report that was made was written, or the sink failed
fault-written : {A : Type 0} (d : Result A Trouble) (names : List (List ℕ)) (old new : Output) (fault : Option Trouble) (text : List ℕ) → fault_of d ≡ None → Writes old new fault text → Answers fault (fault_of d) names
fault-written d names old new fault text due (inl whole) = inl (whole.0 ∙ sym due)
fault-written d names old new fault text due (inr part) = inr (inr (inr (due, part.0)))

module _ {A : Type 0} (old new : Outside) (c : Chain A) (r : Result A Trouble) (serves : Serves old new c r)
    (bytes : List ℕ → List ℕ) (names : List (List ℕ)) (d : Result A Trouble) (gives : Gives bytes c names d) (are : AreTold old.told bytes names) where
  is-due : IsDue serves.names names r d
  is-due = due old.told bytes old.faults new.faults c serves.names names r d serves.ends gives are

  -- what was done is what is due
  is-due-work : (j w : A) → r ≡ Ok j → d ≡ Ok w → j ≡ w
  is-due-work j w done due = ⊎_elim (λ e. let both : Ok j ≡ Ok w = sym done ∙ e ∙ due in cc)
      (⊎_elim (λ e. absurd cc) (λ e. absurd (let f = e.4 in cc))) is-due.end

  asks : AsksFirstOf old.asked new.asked names
  asks = asks-first old.asked new.asked serves.names is-due.rest names is-due.first serves.asked

  answers-refused : (t : Trouble) (fault : Option Trouble) → r ≡ Err t → fault ≡ Some t → Answers fault (fault_of d) names
  answers-refused t fault refused said = subst (λ f. Answers f (fault_of d) names) (ap fault_of refused ∙ sym said) (fault-due r d names is-due.end)

  answers-written : (j : A) (before after : Output) (fault : Option Trouble) (text : List ℕ) → r ≡ Ok j → Writes before after fault text → Answers fault (fault_of d) names
  answers-written j before after fault text done written = fault-written d names before after fault text (done-due r d j names done is-due.end) written

-- what the faults of files say, whatever is told
last-asked : (old new : Option (List (List ℕ))) (names more : List (List ℕ)) (name : List ℕ) → names ≡ more ++ name ∷ [] → IfSome old (λ before. new ≡ Some (before ++ names)) → AskedLast old new name
last-asked None new names more name split asked = tt
last-asked (Some before) new names more name split asked = (more, asked ∙ ap (λ ns. Some (before ++ ns)) split ∙ ap Some (sym (append_assoc before more (name ∷ []))))

module _ {A : Type 0} (old new : Outside) (c : Chain A) (r : Result A Trouble) (serves : Serves old new c r) (frank : IsFrank None c) where
  ends-with : (t : Trouble) → r ≡ Err t → MayEnd old.told old.faults new.faults c serves.names (Err t)
  ends-with t same = subst (MayEnd old.told old.faults new.faults c serves.names) same serves.ends

  unread : (name : List ℕ) → r ≡ Err (Read name) → Rose old.faults new.faults × AskedLast old.asked new.asked name
  unread name same =
      let h = read-rose old.told old.faults new.faults None c serves.names name frank (ends-with (Read name) same) in
      (h.0, last-asked old.asked new.asked serves.names h.1.0 name h.1.1 serves.asked)

  too-large : (name : List ℕ) → r ≡ Err (TooLarge name) → AskedLast old.asked new.asked name
  too-large name same =
      let h = large-asked old.told old.faults new.faults c serves.names name frank (ends-with (TooLarge name) same) in
      last-asked old.asked new.asked serves.names h.0 name h.1 serves.asked

  stays : ((name : List ℕ) → r ≢ Err (Read name)) → new.faults ≡ old.faults
  stays other = count-stays old.told old.faults new.faults c serves.names r other serves.ends

-- work that was done has no other fault than a failed write
no-other : (fault : Option Trouble) (t : Trouble) → WasDone fault → fault ≡ Some t → t ≡ Write
no-other fault t (inl none) is = absurd (let e = sym none ∙ is in cc)
no-other fault t (inr write) is = (let e = sym write ∙ is in cc)

done-so : (before after : Output) (fault : Option Trouble) (text : List ℕ) → Writes before after fault text → WasDone fault
done-so before after fault text (inl whole) = inl whole.0
done-so before after fault text (inr part) = inr part.0

-- what holds of a command whose chain came to an end, and which left what is left then
module _ (old new : Outside) (before after : Output) (words : List (List ℕ)) (e : Ended) (status : e.status ≡ status_of e.fault) where
  pub served : (end : Result Work Trouble) → Serves old new (command words) end → Leaves before after e end → Served old new before after words e
  served (Err t) serves left =
      let frank = frank-command words in
      let read : (name : List ℕ) → e.fault ≡ Some (Read name) → t ≡ Read name = λ name fault. let f = sym left.reason ∙ fault in cc in
      let unwritten : WasDone e.fault → ⊥ = λ whole. no-write old.told old.faults new.faults None (command words) serves.names frank
      (subst (λ u. MayEnd old.told old.faults new.faults (command words) serves.names (Err u)) (no-other e.fault t whole left.reason) serves.ends) in
      record {
        status = status;
        serves = (Err t, serves, left);
        read = λ name fault. unread old new (command words) (Err t) serves frank name (ap Err (read name fault));
        large = λ name fault. too-large old new (command words) (Err t) serves frank name (let f = sym left.reason ∙ fault in cc);
        no_fault = λ other. stays old new (command words) (Err t) serves frank (λ name f. other name (left.reason ∙ (let same : t ≡ Read name = cc in ap Some same)));
        told = λ bytes names due gives are. answers-refused old new (command words) (Err t) serves bytes names due gives are t e.fault refl left.reason;
        asks = λ bytes names due gives are. asks old new (command words) (Err t) serves bytes names due gives are;
        work = λ bytes names due gives are whole. absurd (unwritten whole);
        table = λ begins whole. absurd (unwritten whole);
        no_table = λ u fault other. left.no_table;
        still = λ begins. left.no_table;
      }
  served (Ok w) serves left =
      let frank = frank-command words in
      let whole = done-so before after e.fault left.text left.written in
      let tabled : is_some e.closed ≡ begins_with_run words = table-beside w (ending_of e left.text) left.done ∙ beside-by-word old.told old.faults new.faults words serves.names w serves.ends in
      record {
        status = status;
        serves = (Ok w, serves, left);
        read = λ name fault. absurd (let f = no-other e.fault (Read name) whole fault in cc);
        large = λ name fault. absurd (let f = no-other e.fault (TooLarge name) whole fault in cc);
        no_fault = λ other. stays old new (command words) (Ok w) serves frank (λ name f. cc);
        told = λ bytes names due gives are. answers-written old new (command words) (Ok w) serves bytes names due gives are w before after e.fault left.text refl left.written;
        asks = λ bytes names due gives are. asks old new (command words) (Ok w) serves bytes names due gives are;
        work = λ bytes names due gives are written. subst (LeavesDone before after e) (is-due-work old new (command words) (Ok w) serves bytes names (Ok due) gives are w due refl refl) left;
        table = λ begins written. tabled ∙ begins;
        no_table = λ t fault other. absurd (other (no-other e.fault t whole fault));
        still = λ begins. no-table e.closed (tabled ∙ begins);
      }
