use Rattle.std.proofs.Common.{◌∙◌, ap}
use Rattle.ad_base.specs.declared.role.Role.TheVariants.{Code}
use Rattle.ad_call.specs.Private.Stored.{word_of_role}
use Rattle.ad_call.proofs.PiecesAt.{text-offset}
use Rattle.ad_call.proofs.bus.fetch_text.Goals as goal

pub returns-clause-word : goal.returns-clause-word
returns-clause-word g c =
    c.word.ensures
    ∙ ap (word_of_role c.args.pieces.now.image.now Code)
    (text-offset c.args.pieces.now c.args.at c.ranges.at.fits c.requires.clear (g.P.Pages.view c.args.pages.now).place c.in-Some.page c.requires.place c.in-Some.ensures.page)
