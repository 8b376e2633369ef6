-- What stays of the half of the rule that concerns owing, where a slot's word or a count changes and no batch's members do.
use Rattle.std.proofs.Common.{◌≡◌, ◌≢◌, ℕ, ◌<◌, ◌≤◌, length, sym, ap, ◌∙◌, inl, inr, arith}
use Rattle.std.proofs.lemmas.Bool.{cases_eq}
use Rattle.ad_events.specs.Functions.{changed}
use Rattle.ad_events.specs.Owed as owing
use Rattle.ad_events.specs.Owed.{count_of, last_batch, IsOpened}
use Rattle.ad_events.specs.OwedLaws.{slot_word}
use Rattle.ad_events.proofs.Functions.{changed-here, changed-else}
use Rattle.ad_maps.specs.declared.shape.Shape.{Shape}
use Rattle.ad_maps.specs.Rule.{St, Kept, Owing}

module _ (shape : Shape) (s : St) (r : Kept shape s) (owed : owing.State) where
  -- the words of slots and counts are those of the machine
  abbrev AreCounted : (ℕ → ℕ) → (ℕ → ℕ) → Type 0
  AreCounted slot count = ((t : ℕ) → t < shape.slots → slot t ≡ slot_word owed t) × ((b : ℕ) → IsOpened owed b → count b ≡ count_of owed b) × ((b : ℕ) → last_batch owed < b → count b ≡ 0)

  -- other words of slots and counts
  owing-stays : (slot count : ℕ → ℕ) → length owed.slots ≡ length r.state.owed.slots → length owed.seats ≡ length r.state.owed.seats → AreCounted slot count
      → Owing shape owed r.state.batch r.places r.lines slot count r.words.member
  owing-stays slot count slots seats are = record {
    slots = slots ∙ r.owing.slots;
    seats = seats ∙ r.owing.seats;
    each_slot = are.0;
    each_count = are.1;
    no_count = are.2;
    each_listed = r.owing.each_listed;
    each_member = r.owing.each_member;
    once = r.owing.once;
    each_line = r.owing.each_line;
    some_line = r.owing.some_line;
  }

  -- a slot's word has changed as the machine's slot has, and no count has
  pub slot_changed : (slot x : ℕ) → length owed.slots ≡ length r.state.owed.slots → length owed.seats ≡ length r.state.owed.seats → last_batch owed ≡ last_batch r.state.owed
      → ((b : ℕ) → IsOpened r.state.owed b → count_of owed b ≡ count_of r.state.owed b) → x ≡ slot_word owed slot → ((t : ℕ) → t ≢ slot → slot_word owed t ≡ slot_word r.state.owed t)
      → Owing shape owed r.state.batch r.places r.lines (changed r.words.slot slot x) r.words.count r.words.member
  slot_changed slot x slots seats last counts here else = owing-stays (changed r.words.slot slot x) r.words.count slots seats (
    (λ t l.
        elim (cases_eq t slot) [
          | inl e ↦ changed-here r.words.slot slot x t e ∙ (here ∙ ap (slot_word owed) (sym e))
          | inr ne ↦ changed-else r.words.slot slot x t ne ∙ (r.owing.each_slot t l ∙ sym (else t ne))
        ]),
    (λ b now. let old : IsOpened r.state.owed b = record { positive = now.positive; within = let l = now.within in omega arith } in r.owing.each_count b old ∙ sym (counts b old)),
    (λ b l. r.owing.no_count b (omega arith)),
  )

  -- the count of a batch that is opened now has changed as the machine's has, and no other count and no slot's word has
  pub count_changed : (b x : ℕ) → length owed.slots ≡ length r.state.owed.slots → length owed.seats ≡ length r.state.owed.seats → last_batch r.state.owed ≤ last_batch owed → b ≤ last_batch owed
      → ((t : ℕ) → slot_word owed t ≡ slot_word r.state.owed t) → x ≡ count_of owed b → ((c : ℕ) → IsOpened owed c → c ≢ b → (c ≤ last_batch r.state.owed) × (count_of owed c ≡ count_of r.state.owed c))
      → Owing shape owed r.state.batch r.places r.lines r.words.slot (changed r.words.count b x) r.words.member
  count_changed b x slots seats last within words here else = owing-stays r.words.slot (changed r.words.count b x) slots seats (
    (λ t l. r.owing.each_slot t l ∙ sym (words t)),
    (λ c now.
        elim (cases_eq c b) [
          | inl e ↦ changed-here r.words.count b x c e ∙ (here ∙ ap (count_of owed) (sym e))
          | inr ne ↦ let old = else c now ne in changed-else r.words.count b x c ne ∙ (r.owing.each_count c (record { positive = now.positive; within = old.0 }) ∙ sym old.1)
        ]),
    (λ c l. changed-else r.words.count b x c (λ e. omega arith) ∙ r.owing.no_count c (omega arith)),
  )
