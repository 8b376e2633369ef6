use Rattle.ad_kit.proofs.Appends.{append_five, append_more}
use Rattle.ad_kit.proofs.header.put_header.Goals as goal

pub returns-clause-bytes : goal.returns-clause-bytes
returns-clause-bytes c =
    let first = append_five _ _ _ _ _ _ _ _ _ _ _ c.in_ok-put_u32.ensures c.in_ok-put_u32-2.ensures c.in_ok-put_u64.ensures c.in_ok-put_u64-2.ensures c.in_ok-put_u64-3.ensures in
    let second = append_five _ _ _ _ _ _ _ _ _ _ _ c.in_ok-put_u64-4.ensures c.in_ok-put_u32-3.ensures c.in_ok-put_u32-4.ensures c.in_ok-put_u64-5.ensures c.in_ok-put_u64-6.ensures in
    append_more _ _ _ _ _ first second
