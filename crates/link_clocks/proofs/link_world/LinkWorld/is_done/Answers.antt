use Rattle.std.proofs.Common.{◌≡◌, ◌↔◌, ℕ, ◌<◌, ◌∙◌, IsTrue, ap, length, slice_index, subst, sym}
use Rattle.net_model.specs.Net.{Net}
use Rattle.world_core.specs.declared.advancing.Stations.{Stations}
use Rattle.link_clocks.specs.LinkWorlds.{LinkView}
use Rattle.link_clocks.specs.NetClocks.{AreAllDone}
use Rattle.link_clocks.proofs.LinkStanding.{all-done, done-at}
use Rattle.link_clocks.proofs.link_world.LinkWorld.is_done.Goals as goal

pub returns-clause-value : goal.returns-clause-value
returns-clause-value c =
    let i = c.self.inside in
    let net = i.stations.value.model.value in
    let now = i.clocks.now.items in
    let at : c.horizon.result ≡ net.horizon = c.horizon.ensures.value ∙ ap (λ (n : Net). n.horizon)
    (c.deref-2.ensures ∙ ap (λ (s : Stations). s.model.value) c.deref.ensures) in
    let all = subst (λ ts. IsTrue c.are_all.result ↔ ((j : ℕ) → j < length ts → slice_index ts j ≡ c.horizon.result))
    c.as_slice.ensures.value c.are_all.ensures.value in
    let own : IsTrue c.are_all.result ↔ AreAllDone net i.clocks.rounds = (
      λ t. all-done net i.stations.value.lists.clones i.stations.value.ends i.clocks.rounds now i.clocks.next.items
          i.stations.value.procs.items c.self.invariant
          (λ j l. all.0 t j l ∙ at),
      λ d. all.1 (λ j l. done-at net i.stations.value.lists.clones i.stations.value.ends i.clocks.rounds now i.clocks.next.items
          i.stations.value.procs.items
          c.self.invariant d j l ∙ sym at),
    ) in
    subst (λ (v : LinkView). IsTrue c.are_all.result ↔ AreAllDone v.net v.rounds) c.self.view_is own
