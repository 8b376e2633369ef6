use Rattle.std.proofs.Common.{◌≡◌, List, ℕ, ◌++◌, append_assoc, flat_map, get_or, replicate, subst, ap, ap₂, ◌∙◌}
use Rattle.std.proofs.lemmas.List.{take_all}
use Rattle.std.proofs.lemmas.List.Elements.{All-more}
use Rattle.ad_kit.specs.ReadBack.{IsSymbolFit}
use Rattle.ad_kit.specs.ObjectFile.{place, symbol, symbol_at, symbol_names, symbols_bytes}
use Rattle.ad_kit.specs.declared.object.KitSymbol.{KitSymbol}
use Rattle.ad_kit.proofs.Bytes.{pieces_more}
use Rattle.ad_kit.proofs.Numbers.{place_of_symbol}
use Rattle.ad_kit.proofs.body.put_symbols.Goals as goal

pub loop-k-preserved : goal.loop-k-preserved
loop-k-preserved c =
    let ys = c.args.symbols.now in
    let k = c.loop-k.k in
    let y = c.index-symbols-k.result in
    let ns = symbol_names ys in
    let name : c.entry.result ≡ place ns (get_or ys k y).name = c.entry.ensures ∙ place_of_symbol ys ns c.args.places.now k y c.requires c.loop-k-test.true in
    let pushed = c.in_ok-put_symbol.ensures.bytes ∙ ap₂ (λ (n : ℕ) (z : KitSymbol). c.loop-k.body.items ++ symbol_at n z) name c.index-symbols-k.is in
    record {
      bytes = pieces_more (symbol ns) (c.args.body.now.items ++ replicate 24 0) ys k y c.loop-k.body.items _ c.loop-k-test.true c.loop-k.invariant.bytes pushed;
      fit = All-more IsSymbolFit ys k y c.loop-k-test.true c.loop-k.invariant.fit (subst IsSymbolFit c.index-symbols-k.is c.in_ok-put_symbol.ensures.fit);
    }

pub returns-clause-bytes : goal.returns-clause-bytes
unfolding symbols_bytes
returns-clause-bytes c =
    let ys = c.args.symbols.now in
    let f = symbol (symbol_names ys) in
    c.loop-k.invariant.bytes ∙ ap (λ (xs : List KitSymbol). (c.args.body.now.items ++ replicate 24 0) ++ flat_map f xs) (take_all c.loop-k.k ys c.loop-k-test.false) ∙ append_assoc c.args.body.now.items (replicate 24 0) (flat_map f ys)
