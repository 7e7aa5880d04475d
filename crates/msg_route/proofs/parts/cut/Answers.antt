use Rattle.std.proofs.Common.{◌≡◌, arith}
use Rattle.std.proofs.lemmas.Grind.{common_steps}
use Rattle.msg_route.specs.Routing.{parts_of}
use Rattle.msg_route.proofs.PartLaws.{parts_are_cut}
use Rattle.msg_route.proofs.parts.cut.Goals as goal

pub returns-clause-cut : goal.returns-clause-cut
returns-clause-cut c =
    let value : c.loop-receiver.parts.items ≡ parts_of c.args.senders c.args.receivers.now =
    grind (arith, common_steps) in
    rw value (parts_are_cut c.args.senders c.args.receivers.now)
