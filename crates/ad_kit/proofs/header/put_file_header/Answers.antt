use Rattle.ad_kit.specs.ObjectFile.{identification}
use Rattle.ad_kit.proofs.Appends.{append_five, append_four, append_more}
use Rattle.ad_kit.proofs.header.put_file_header.Goals as goal

pub returns : goal.returns
returns c =
    let before = c.args.file.now.items in
    let first = append_five before identification _ _ _ _ _ _ _ _ _ c.in_ok-put_identification.ensures c.in_ok-put_u16.ensures c.in_ok-put_u16-2.ensures c.in_ok-put_u32.ensures c.in_ok-put_u64.ensures in
    let second = append_five _ _ _ _ _ _ _ _ _ _ _ c.in_ok-put_u64-2.ensures c.in_ok-put_u64-3.ensures c.in_ok-put_u32-2.ensures c.in_ok-put_u16-3.ensures c.in_ok-put_u16-4.ensures in
    let third = append_four _ _ _ _ _ _ _ _ _ c.in_ok-put_u16-5.ensures c.in_ok-put_u16-6.ensures c.in_ok-put_u16-7.ensures c.in_ok-put_u16-8.ensures in
    append_more before _ _ _ _ (append_more before _ _ _ _ first second) third
