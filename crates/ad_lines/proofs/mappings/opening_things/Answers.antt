use Rattle.std.proofs.Common.{◌≡◌, ◌+◌, [], ◌∷◌, ◌++◌, ◌∙◌, ap, sym, length, map, take, arith, append-nil, append_assoc, length-take}
use Rattle.std.specs.List.{range_with_len}
use Rattle.std.proofs.lemmas.List.{map-append}
use Rattle.std.proofs.lemmas.Simd.{map-map}
use Rattle.ad_lines.specs.declared.mappings.Thing.{Thing}
use Rattle.ad_lines.specs.Opening.{module_requests, opening_requests, stack_request}
use Rattle.ad_lines.specs.Private.Places.{thing_of}
use Rattle.ad_lines.proofs.Asked.{code_request, fixed_request, requests-push}
use Rattle.ad_lines.proofs.Opens.{there}
use Rattle.ad_lines.proofs.Zips.{take-next}
use Rattle.ad_lines.proofs.mappings.opening_things.Goals as goal

pub loop-number-init : goal.loop-number-init
loop-number-init c =
    let stacks = range_with_len 0 c.args.workers in
    c.in_ok-things.ensures ∙ sym (map-map thing_of stack_request stacks) ∙ ap (map thing_of) (sym (append-nil (map stack_request stacks)))

pub loop-number-preserved : goal.loop-number-preserved
loop-number-preserved c =
    let images = c.args.images.now in
    let workers = c.args.workers in
    let n = c.loop-number.number in
    let front = take n images in
    let next = there images n c.loop-number-test.true in
    let count : length front ≡ n = omega (arith, length-take n images, c.loop-number-test.true) in
    let before = opening_requests workers front in
    let requests : opening_requests workers (take (n + 1) images) ≡ before ++ module_requests (n, next.0) =
    ap (opening_requests workers) (take-next images n next.0 next.1) ∙ requests-push workers front next.0 ∙ ap (λ k. before ++ module_requests (k, next.0)) count in
    let fixed : Thing = thing_of (fixed_request (n, next.0)) in
    let code : Thing = thing_of (code_request (n, next.0)) in
    c.in_ok-push-2.ensures.items
    ∙ ap (λ xs. xs ++ code ∷ []) (c.in_ok-push.ensures.items ∙ ap (λ xs. xs ++ fixed ∷ []) c.loop-number.invariant)
    ∙ append_assoc (map thing_of before) (fixed ∷ []) (code ∷ [])
    ∙ sym (map-append thing_of before (module_requests (n, next.0)))
    ∙ ap (map thing_of) (sym requests)
