use Rattle.std.proofs.Common.{◌≡◌, ℕ, ◌+◌, ◌*◌, ◌^◌, ◌++◌, ap, ◌∙◌, rules}
use Rattle.ad_kit.specs.ObjectFile.{i64, u64}
use Rattle.ad_kit.proofs.Appends.{append_more}
use Rattle.ad_kit.proofs.header.put_rela.Goals as goal

pub returns-clause-bytes : goal.returns-clause-bytes
returns-clause-bytes c =
    let made = c.args.made in
    let place = u64 made.offset in
    let info = u64 (made.symbol * 2 ^ 32 + made.typ) in
    let second = c.in_ok-put_u64-2.ensures ∙ ap (λ (n : ℕ). c.put_u64.new.file.items ++ u64 (made.symbol * 2 ^ 32 + n)) c.from.ensures in
    let third : c.put_i64.new.file.items ≡ c.put_u64-2.new.file.items ++ i64 made.addend = search rules in
    let first = append_more c.args.file.now.items place info _ _ c.in_ok-put_u64.ensures second in
    append_more c.args.file.now.items (place ++ info) (i64 made.addend) _ _ first third
