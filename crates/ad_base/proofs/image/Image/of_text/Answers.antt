use Rattle.std.proofs.Common.{◌∙◌, refl, arith}
use Rattle.ad_base.proofs.TextImage.{text_image-is}
use Rattle.ad_base.proofs.Zeros.{filled, none-filled}
use Rattle.ad_base.proofs.image.Image.of_text.Goals as goal

pub returns-clause-image : goal.returns-clause-image
returns-clause-image c =
    let code = c.of.ensures ∙ c.in_ok-resize.ensures.items ∙ filled 8192 c.args.text.len c.args.text.items c.args.text.ok.0 (omega (arith, c.requires)) in
    let fixed_code = c.of-5.ensures ∙ c.in_ok-resize-2.ensures.items ∙ filled 4096 c.new-fixed_code.result.len c.new-fixed_code.result.items c.new-fixed_code.result.ok.0 (omega (arith, c.new-fixed_code.ensures.len, c.new-fixed_code.result.ok.0)) ∙ none-filled 4096 c.new-fixed_code.result.items c.new-fixed_code.ensures.items in
    text_image-is c.args.text.items c.args.exports c.args.fixed _ _ _ _ _ _ _ code (c.of-2.ensures ∙ c.new.ensures.items) (c.of-3.ensures ∙ c.new-2.ensures.items) (c.of-4.ensures ∙ c.new-3.ensures.items) fixed_code (c.of-6.ensures ∙ c.new-4.ensures.items) refl
