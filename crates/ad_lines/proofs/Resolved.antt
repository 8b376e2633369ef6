-- Steps that are ready, one more after the others.
use Rattle.std.proofs.Common.{◌≡◌, ℕ, List, [], ◌∷◌, ◌++◌, Some, None, Result, Ok, Err, refl, sym, ap, ◌∙◌, append_assoc, append-nil}
use Rattle.ad_base.specs.declared.image.Image.{Image}
use Rattle.ad_script.specs.declared.script.Step.{Step}
use Rattle.ad_script.specs.Script.{line_of}
use Rattle.ad_lines.specs.declared.ready.ReadyStep.{ReadyStep}
use Rattle.ad_lines.specs.Ready.{before_others, ready_step, ready_steps, resolved}

-- these steps before the others
abbrev pub behind : List ReadyStep → Result (List ReadyStep) ℕ → Result (List ReadyStep) ℕ
behind done (Ok steps) = Ok (done ++ steps)
behind done (Err line) = Err line

behind-next : (done : List ReadyStep) (next : ReadyStep) (others : Result (List ReadyStep) ℕ) → behind done (before_others next others) ≡ behind (done ++ next ∷ []) others
behind-next done next (Ok steps) = ap Ok (sym (append_assoc done (next ∷ []) steps))
behind-next done next (Err line) = refl

pub behind-none : (r : Result (List ReadyStep) ℕ) → behind [] r ≡ r
behind-none (Ok steps) = refl
behind-none (Err line) = refl

-- one more is ready
pub behind-ready : (images : List Image) (done : List ReadyStep) (step : Step) (next : ReadyStep) (rest : List Step) → ready_step images step ≡ Some next
    → behind done (ready_steps images (step ∷ rest)) ≡ behind (done ++ next ∷ []) (ready_steps images rest)
unfolding ready_steps
behind-ready images done step next rest is = ap (λ o. behind done (resolved step o (ready_steps images rest))) is ∙ behind-next done next (ready_steps images rest)

-- one isn't
pub behind-missing : (images : List Image) (done : List ReadyStep) (step : Step) (rest : List Step) → ready_step images step ≡ None
    → behind done (ready_steps images (step ∷ rest)) ≡ Err (line_of step)
unfolding ready_steps
behind-missing images done step rest is = ap (λ o. behind done (resolved step o (ready_steps images rest))) is

-- all are
pub behind-all : (images : List Image) (done : List ReadyStep) → behind done (ready_steps images []) ≡ Ok done
unfolding ready_steps
behind-all images done = ap Ok (append-nil done)
