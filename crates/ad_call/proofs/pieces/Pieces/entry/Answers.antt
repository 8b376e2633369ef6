use Rattle.std.proofs.Common.{ap, ◌∙◌, ◌/◌, ◌%◌, drop, slice_index_or, arith}
use Rattle.byteorder.specs.Endian.{little_bytes, little_number}
use Rattle.ad_base.specs.declared.layout.TheConstants.{WORD_BYTES}
use Rattle.ad_call.proofs.PageWords.{in_page}
use Rattle.ad_call.proofs.pieces.Pieces.entry.Goals as goal

pub returns-clause-found : goal.returns-clause-found
returns-clause-found c =
    let o = c.args.offset in
    let pieces = c.args.self.now in
    let words = pieces.image.now.table in
    c.bytes_of_word.ensures.found
    ∙ ap (λ w. little_number c.args.size (drop (o % WORD_BYTES) (little_bytes WORD_BYTES w))) (c.word_at-word.ensures ∙ ap (λ ws. slice_index_or ws (o / WORD_BYTES) 0) c.as_slice.ensures)
    ∙ in_page c.args.size o words c.requires.size c.requires.aligned c.requires.inside (omega (arith, pieces.whole.table_fits))
