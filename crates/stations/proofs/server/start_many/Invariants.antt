use Rattle.std.proofs.Common.{◌≡◌, ◌-◌, ◌+◌, ◌≤◌}
use Rattle.arrayvec.specs.ArrayVec.{array_vec_len}
use Rattle.net_model.specs.Sites.{as_site}
use Rattle.stations.specs.Sending.{outgoing, reaction}
use Rattle.stations.specs.Servers.{start_times}
use Rattle.stations.proofs.server.start_many.Given as goal

abbrev pub invariant-starts : goal.invariant-starts
invariant-starts l = record {
  rest : start_times (l.times - l.counter) l.model (as_site l.station) l.now
      (reaction l.server (outgoing l.sender l.out.items))
      ≡ start_times l.times l.model (as_site l.station) l.now
      (reaction l.initial.server (outgoing l.initial.sender l.initial.out.items));
  sent : array_vec_len l.out ≤ l.counter;
  next : l.sender.next ≤ l.initial.sender.next + l.counter;
  draws : l.sender.draws.count ≤ l.initial.sender.draws.count + l.counter;
  lo : l.server.lo ≡ l.initial.server.lo;
  hi : l.server.hi ≡ l.initial.server.hi;
}
