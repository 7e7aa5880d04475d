use Rattle.std.proofs.Common.{arith, refl}
use Rattle.cloner_top.proofs.Decisions.{IsAt-begin, IsAt-end, goes_on, refused_or_memory}
use Rattle.cloner_top.proofs.deciding.decide_script.Goals as goal

pub loop-i-init : goal.loop-i-init
loop-i-init c = IsAt-begin _ _ _ c.in-Ok.ensures.value

pub loop-i-preserved : goal.loop-i-preserved
loop-i-preserved c =
    goes_on _ _ _ _ _ c.item.ensures.value c.loop-i.invariant _ c.decide_item.ensures.net
    c.in-Ok-decide_item.ensures.events c.in-Ok-decide_item.ensures.ok c.in-Ok-decide_item.ensures.accepted

pub returns-in-Err-clause-err : goal.returns-in-Err-clause-err
returns-in-Err-clause-err c =
    refused_or_memory _ _ _ _ _ c.item.ensures.value c.loop-i.invariant c.args.script.now _ refl c.in-Err.ensures.err

pub returns-clause-ok : goal.returns-clause-ok
returns-clause-ok c =
    IsAt-end _ _ _ _ (omega (arith, c.loop-i-test.false, c.len-i-end.ensures.value)) c.loop-i.invariant
