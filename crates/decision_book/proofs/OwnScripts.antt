-- A clone's own script suffices for it.
use Rattle.std.proofs.Common.{ap, ◌∙◌}
use Rattle.net_model.specs.Net.{Net}
use Rattle.decision_script.specs.Alone.{decisions}
use Rattle.decision_script.proofs.OwnDecisions.{decisions_of_alone}
use Rattle.decision_book.specs.Laws.{OwnScriptSuffices, clone_named}
use Rattle.decision_book.specs.Scripts.{first_refusal, lists_of}
use Rattle.decision_book.proofs.AloneLaw.{alone_suffices}

-- if a script is all accepted, so is a clone's own script, which leads to the same list and end
pub own_script_suffices : (net : Net) → OwnScriptSuffices net
own_script_suffices net who s ok =
    let own = alone_suffices net who (decisions s.items) ok in
    let same = decisions_of_alone s who in
    record {
      accepted = ap (first_refusal net) same ∙ own.accepted;
      same = ap (λ ds. clone_named who (lists_of net ds)) same ∙ own.same;
    }
