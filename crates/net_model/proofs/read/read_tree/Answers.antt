use Rattle.toml.specs.Errors.{IsMemory}
use Rattle.net_model.proofs.Trees.{tree-Some, tree-None}
use Rattle.net_model.proofs.read.read_tree.Goals as goal

pub returns-in-Ok-clause-ok : goal.returns-in-Ok-clause-ok
returns-in-Ok-clause-ok c = tree-Some _ _ c.in-Ok.ensures.ok.0 c.in-Ok.ensures.ok.1

pub returns-in-Err-clause-refused : goal.returns-in-Err-clause-refused
returns-in-Err-clause-refused c other =
    let not_memory : ¬ IsMemory c.in-Err.error = λ m. other (c.refusal.ensures.memory m) in
    (c.refusal.ensures.other not_memory, tree-None _ (c.in-Err.ensures.refused not_memory))
