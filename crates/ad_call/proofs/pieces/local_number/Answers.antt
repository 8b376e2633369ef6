use Rattle.std.proofs.Common.{ap, ◌∙◌, ◌%◌, drop, map, arith}
use Rattle.std.proofs.lemmas.List.{length-map}
use Rattle.byteorder.specs.Endian.{little_bytes, little_number}
use Rattle.ad_base.specs.declared.layout.TheConstants.{WORD_BYTES}
use Rattle.ad_base.specs.Layout.{local_word}
use Rattle.ad_base.specs.Place.{base_of}
use Rattle.ad_call.proofs.PageWords.{in_page}
use Rattle.ad_call.proofs.pieces.local_number.Goals as goal

pub returns-clause-found : goal.returns-clause-found
returns-clause-found g c =
    let o = c.args.offset in
    let base = base_of (g.P.Pages.view c.args.pages.now).place in
    let cells = (g.P.Pages.view c.args.pages.now).cells in
    c.bytes_of_word.ensures.found
    ∙ ap (λ w. little_number c.args.size (drop (o % WORD_BYTES) (little_bytes WORD_BYTES w))) c.cell-word.ensures.word
    ∙ in_page c.args.size o (map (local_word base) cells) c.requires.size c.requires.aligned c.requires.inside (omega (arith, c.requires.few, length-map cells (local_word base)))
