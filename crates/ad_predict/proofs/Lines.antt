-- What replies print.
use Rattle.std.proofs.Common.{◌≡◌, ℕ, ◌+◌, ◌<◌, List, [], ◌∷◌, ◌++◌, ◌∙◌, length, take, drop, get_or, ap, sym, refl, add-one, append_assoc}
use Rattle.std.proofs.Math.Seq.{take-suc}
use Rattle.ad_lines.proofs.Lists.{drop-next}
use Rattle.std.specs.Prelude.{codes}
use Rattle.std.specs.Fmt.{decimal}
use Rattle.std.proofs.lemmas.List.{append-nil, take-append-drop}
use Rattle.ad_report.specs.Report.{notes_text}
use Rattle.ad_symbolic.specs.declared.reply.SymReply.{SymReply}
use Rattle.ad_symbolic.specs.Replay.{Answer, Clear, Keeps, Lost, NotClear}
use Rattle.ad_symbolic.specs.Reply.{reply_of}
use Rattle.ad_predict.specs.Prediction.{answer_text, call_line}
use Rattle.ad_predict.specs.Private.Asking.{reply_text}

pub reply-prints : (a : Answer) → reply_text (reply_of a).end ++ notes_text (reply_of a).notes ≡ answer_text a
reply-prints (Clear end notes) = refl
reply-prints (NotClear reason step) = append-nil (answer_text (NotClear reason step))
reply-prints Keeps = refl
reply-prints Lost = refl

-- the line of a call, by its reply
pub line-prints : (line worker : ℕ) (name export : List ℕ) (r : SymReply) (a : Answer) → r ≡ reply_of a
    → codes "call " ++ decimal line ++ codes " w" ++ decimal worker ++ codes " " ++ name ++ codes "." ++ export ++ codes ": " ++ (reply_text r.end ++ notes_text r.notes) ++ 0x0a ∷ [] ≡ call_line line worker name export a
unfolding call_line
line-prints line worker name export r a is =
    ap (λ text. codes "call " ++ decimal line ++ codes " w" ++ decimal worker ++ codes " " ++ name ++ codes "." ++ export ++ codes ": " ++ text ++ 0x0a ∷ [])
    (ap (λ (x : SymReply). reply_text x.end ++ notes_text x.notes) is ∙ reply-prints a)

-- the pieces of a line, appended one after another
pub line-appended : (text call line w worker space name dot export colon end notes lf : List ℕ)
    → (((((((text ++ (call ++ (line ++ (w ++ (worker ++ space))))) ++ name) ++ dot) ++ export) ++ colon) ++ end) ++ notes) ++ lf
    ≡ text ++ (call ++ line ++ w ++ worker ++ space ++ name ++ dot ++ export ++ colon ++ (end ++ notes) ++ lf)
line-appended text call line w worker space name dot export colon end notes lf = simp append_assoc

-- a list by an item of it, those before and those behind
pub around : {A : Type 0} (xs : List A) (i : ℕ) (x : A) → i < length xs → x ≡ get_or xs i x → take i xs ++ x ∷ drop (i + 1) xs ≡ xs
around xs i x within is = ap (λ ys. take i xs ++ ys) (sym (drop-next xs i x within is)) ∙ take-append-drop i xs

pub take-next : {A : Type 0} (xs : List A) (i : ℕ) (x : A) → i < length xs → x ≡ get_or xs i x → take i xs ++ x ∷ [] ≡ take (i + 1) xs
take-next xs i x within is = rw add-one (ap (λ y. take i xs ++ y ∷ []) is ∙ sym (take-suc xs i x within))
