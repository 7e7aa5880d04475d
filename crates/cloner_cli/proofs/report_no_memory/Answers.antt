use Rattle.std.proofs.Common.{◌∙◌, [], ◌∷◌, subst}
use Rattle.cloner_top.specs.Outsides.{ArePutOrCut}
use Rattle.cloner_cli.proofs.Lines.{told_one}
use Rattle.cloner_cli.proofs.report_no_memory.Goals as goal

pub returns-clause-told : goal.returns-clause-told
returns-clause-told g c =
    let put = c.put.ensures in
    let line = c.as_bytes.ensures.value ∙ (c.text.ensures ∙ c.line-line.ensures) in
    subst (λ l. ArePutOrCut (l ∷ []) (g.E.Sink.view c.args.err.now) (g.E.Sink.view c.put.new.self)) line
    (told_one c.put.result _ _ _ put.ok put.part put.cause put.counted)
