use Rattle.std.proofs.Common.{◌∙◌, true, false, ap}
use Rattle.ad_reloc.specs.Image.{cells, code_of, data_of, image_of}
use Rattle.ad_reloc.specs.Private.Linking.{tables_of}
use Rattle.ad_reloc.proofs.linking.Linking.image.Goals as goal

pub returns : goal.returns
unfolding image_of
returns c =
    let l = c.args.self.now.layout.now in
    let t = tables_of c.args.self.now in
    let code = c.of.ensures ∙ c.in_ok-code.ensures ∙ ap (code_of l t true) c.deref.ensures.value in
    let words = c.of-2.ensures ∙ c.in_ok-cells.ensures ∙ ap (cells c.args.self.now.object.now l t) c.deref-2.ensures.value in
    let written = c.of-3.ensures ∙ c.in_ok-data_of.ensures ∙ ap (data_of l true) c.deref-3.ensures.value in
    let table = c.of-4.ensures ∙ c.in_ok-table_words.ensures in
    let fixed_code = c.of-5.ensures ∙ c.in_ok-code-2.ensures ∙ ap (code_of l t false) c.deref-4.ensures.value in
    let fixed_data = c.of-6.ensures ∙ c.in_ok-data_of-2.ensures ∙ ap (data_of l false) c.deref-5.ensures.value in
    let exports = c.of-7.ensures ∙ c.in_ok-exports_of.ensures ∙ c.as_slice.ensures in
    λ i. record {
      text_pages = l.sizes.text_pages;
      read_pages = l.sizes.read_pages;
      data_pages = l.sizes.data_pages;
      code = code i;
      cells = words i;
      writable = written i;
      table = table i;
      fixed_text_pages = l.sizes.fixed_text_pages;
      fixed_read_pages = l.sizes.fixed_read_pages;
      fixed_data_pages = l.sizes.fixed_data_pages;
      fixed_code = fixed_code i;
      fixed_data = fixed_data i;
      fixed = c.args.self.now.fixed;
      exports = exports i;
    }
