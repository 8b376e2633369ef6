use Rattle.std.proofs.Common.{map, string_bytes}
use Rattle.ad_command.proofs.Answering.{served}
use Rattle.ad_command.proofs.serve.top_run.Goals as goal

pub returns-clause-served : goal.returns-clause-served
returns-clause-served g c =
    let end = c.prepare_beside-prepared.ensures in
    served (g.F.Files.outside c.args.files.now) (g.F.Files.outside c.prepare_beside-prepared.new.files) (g.K.Sink.output c.args.out.now) (g.K.Sink.output c.answer.new.out)
    (map string_bytes c.args.words.now) c.answer.result c.answer.ensures.status end.0 end.1 (c.answer.ensures.leaves end.0 end.2)
