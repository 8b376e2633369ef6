use Rattle.std.proofs.Common.{◌≡◌, ℕ, ◌+◌, ◌<◌, List, [], length, get_or, arith, ap, ◌∙◌, subst}
use Rattle.std.specs.List.{Contains}
use Rattle.ad_maps.specs.declared.shape.Opening.{Opening}
use Rattle.ad_maps.specs.declared.shape.Shape.{Shape}
use Rattle.ad_maps.specs.declared.view.Deed.{Deed}
use Rattle.ad_maps.specs.declared.view.Made.{Made}
use Rattle.ad_maps.specs.Ledger.{all_made}
use Rattle.ad_maps.specs.MapPlace.{no_opening, opening_of}
use Rattle.ad_maps.specs.Seen.{MoverSeen}
use Rattle.ad_maps.proofs.Machine.{number_at}
use Rattle.ad_maps.proofs.Opened.{opened-all}
use Rattle.ad_maps.proofs.tests.open_maps.Goals as goal

-- a list read through an equation of the list that it was made of
same-opening : (os ps : List Opening) (m : ℕ) → os ≡ ps → get_or os m no_opening ≡ get_or ps m no_opening
same-opening os ps m e = ap (λ (xs : List Opening). get_or xs m no_opening) e

-- what holds of each module's first mapping holds of all that was made
all-at : (f : Made → ℕ) (n k : ℕ) (shape : Shape) (deeds : List Deed) → deeds ≡ [] → length shape.modules ≡ n → ((m : ℕ) → m < n → f (record { of_module = m; place = (opening_of shape m).place }) < k) → (x : Made) → Contains (all_made shape deeds) x → f x < k
all-at f n k shape deeds none long each x c = opened-all (λ y. f y < k) shape (λ m low. each m (omega arith)) x (subst (λ (ds : List Deed). Contains (all_made shape ds) x) none c)

pub returns-clause-current : goal.returns-clause-current
returns-clause-current c m low =
    let shape = c.in_ok-maps.ensures.shape in
    let modules : c.in_ok-maps.maps.shape.modules ≡ c.in_ok-os.os.items = ap (λ (k : Shape). k.modules) shape ∙ c.as_slice.ensures.value in
    let long = ap length modules in
    let len = c.in_ok-os.ensures.len in
    ap (λ (k : MoverSeen). get_or k.current m 0) c.in_ok-maps.ensures.mover
    ∙ (number_at c.in_ok-maps.maps.shape m (omega arith)
    ∙ (ap (λ (o : Opening). o.place.mapping) (same-opening c.in_ok-maps.maps.shape.modules c.in_ok-os.os.items m modules) ∙ ap (λ (o : Opening). o.place.mapping) (c.in_ok-os.ensures.each m low)))

pub returns-clause-above : goal.returns-clause-above
returns-clause-above c =
    let shape = c.in_ok-maps.ensures.shape in
    let modules : c.in_ok-maps.maps.shape.modules ≡ c.in_ok-os.os.items = ap (λ (k : Shape). k.modules) shape ∙ c.as_slice.ensures.value in
    all-at (λ x. x.place.mapping) c.args.modules (1 + c.args.modules) c.in_ok-maps.maps.shape c.in_ok-maps.mover.deeds (ap (λ (k : MoverSeen). k.deeds) c.in_ok-maps.ensures.mover) (ap length modules ∙ c.in_ok-os.ensures.len)
    (λ m low. let is = ap (λ (o : Opening). o.place.mapping) (same-opening c.in_ok-maps.maps.shape.modules c.in_ok-os.os.items m modules ∙ c.in_ok-os.ensures.each m low) in omega arith)

pub returns-clause-region : goal.returns-clause-region
returns-clause-region c =
    let shape = c.in_ok-maps.ensures.shape in
    let modules : c.in_ok-maps.maps.shape.modules ≡ c.in_ok-os.os.items = ap (λ (k : Shape). k.modules) shape ∙ c.as_slice.ensures.value in
    all-at (λ x. x.place.region) c.args.modules (3 + c.args.modules) c.in_ok-maps.maps.shape c.in_ok-maps.mover.deeds (ap (λ (k : MoverSeen). k.deeds) c.in_ok-maps.ensures.mover) (ap length modules ∙ c.in_ok-os.ensures.len)
    (λ m low. let is = ap (λ (o : Opening). o.place.region) (same-opening c.in_ok-maps.maps.shape.modules c.in_ok-os.os.items m modules ∙ c.in_ok-os.ensures.each m low) in omega arith)
