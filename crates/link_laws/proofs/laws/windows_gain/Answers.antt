use Rattle.link_laws.proofs.WindowGains.{handled_grows, handled_grows_to_limit, handled_is_few, over_is_beyond}
use Rattle.link_laws.proofs.WindowGains.{windows-add_up, run-adds_up}
use Rattle.link_laws.proofs.laws.windows_gain.Goals as goal

pub returns : goal.returns
returns g c = record {
  grows = λ w cs front bound s total old h short.
      handled_grows g.T.Stations.lawful w.joins cs s front bound old h.stand h.window w.same total w.tells short h.gained;
  to_limit = λ w cs front bound s total old h short.
      handled_grows_to_limit g.T.Stations.lawful w.joins cs s front bound old h.stand h.window w.same total w.tells short
      h.gained;
  at_most = λ w cs front bound s total old h short.
      handled_is_few g.T.Stations.lawful w.joins cs s front bound old h.stand h.window w.same total w.tells short
      h.gained;
  over = λ has join cs front bound s old over j window st are_over.
      over_is_beyond g.T.Stations.lawful j cs s front bound old st window over are_over;
  windows = λ w cs s front n fs moves fronts short h.
      windows-add_up g.T.Stations.lawful w.joins w.same w.tells cs s moves short front n fs fronts h;
  run = λ w cs s n fs moves fronts short h.
      run-adds_up g.T.Stations.lawful w.joins w.same w.tells cs s moves short n fs fronts h;
}
