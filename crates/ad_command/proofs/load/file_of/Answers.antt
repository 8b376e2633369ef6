use Rattle.std.proofs.Common.{◌≡◌, ◌∙◌, ◌++◌, Err, ap}
use Rattle.ad_command.specs.declared.trouble.Trouble.TheVariants.{Memory}
use Rattle.ad_command.specs.Loading.{file_of}
use Rattle.ad_command.proofs.Chains.{serves-memory}
use Rattle.ad_command.proofs.Loads.{chain-wanting, file-failed, file-long, file-read, handed_on}
use Rattle.ad_command.proofs.load.file_of.Goals as goal

pub returns-in_err-named : goal.returns-in_err-named
returns-in_err-named g c =
    let wanting = handed_on c.from_residual.result Memory c.from_residual.ensures.1 in
    rw wanting (serves-memory (g.F.Files.outside c.args.files.now) (file_of c.args.name.now))

pub returns-in-Ok : goal.returns-in-Ok
returns-in-Ok g c =
    let h = c.in-Ok.ensures in
    let old = g.F.Files.outside c.args.files.now in
    let new = g.F.Files.outside c.fetch.new.self in
    let items : c.fetch.new.into.items ≡ h.whole.0 = h.whole.3 ∙ ap (λ bytes. bytes ++ h.whole.0) c.new-file.ensures.items in
    let faults : new.faults ≡ old.faults = h.no_fault (λ e. cc) in
    rw items (file-read old new c.args.name.now h.whole.0 h.whole.1 h.whole.2 faults h.asked h.same)

pub returns-in-Err-Failed : goal.returns-in-Err-Failed
returns-in-Err-Failed g c =
    let is = c.in-Err-Failed.field-0-is in
    let h = c.in-Err-Failed.ensures in
    let old = g.F.Files.outside c.args.files.now in
    let new = g.F.Files.outside c.fetch.new.self in
    let asked = rw is at h.asked in
    rw (c.in_ok-named.ensures, c.as_bytes.ensures.value) (file-failed old new c.args.name.now (h.failed (ap Err is)) asked h.same)

pub returns-in-Err-TooLarge : goal.returns-in-Err-TooLarge
returns-in-Err-TooLarge g c =
    let is = c.in-Err-TooLarge.field-0-is in
    let h = c.in-Err-TooLarge.ensures in
    let old = g.F.Files.outside c.args.files.now in
    let new = g.F.Files.outside c.fetch.new.self in
    let asked = rw is at h.asked in
    let faults : new.faults ≡ old.faults = h.no_fault (λ e. cc) in
    rw (c.in_ok-named.ensures, c.as_bytes.ensures.value) (file-long old new c.args.name.now (h.too_large (ap Err is)) faults asked h.same)

pub returns-in-Err-OutOfMemory : goal.returns-in-Err-OutOfMemory
returns-in-Err-OutOfMemory g c =
    let is = c.in-Err-OutOfMemory.field-0-is in
    let h = c.in-Err-OutOfMemory.ensures in
    let old = g.F.Files.outside c.args.files.now in
    let new = g.F.Files.outside c.fetch.new.self in
    let asked = rw is at h.asked in
    let faults : new.faults ≡ old.faults = h.no_fault (λ e. cc) in
    chain-wanting old new (file_of c.args.name.now) faults asked h.same
