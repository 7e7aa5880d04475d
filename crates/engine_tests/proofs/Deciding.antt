-- A world of the same clones takes a decision that a book accepts, and both stay in step.
use Rattle.std.proofs.Common.{◌≡◌, ◌+◌, sym, ap, ◌∙◌, subst}
use Rattle.sim_base.specs.declared.decision.Decision.{Decision}
use Rattle.net_model.specs.Net.{Net}
use Rattle.decision_book.specs.Books.{BookView}
use Rattle.decision_book.specs.Journal.{Situation, after, clones_after}
use Rattle.decision_book.specs.Replies.{reply}
use Rattle.decision_book.specs.Scripts.{after_decision}
use Rattle.decision_book.specs.declared.call.Reply.TheVariants.{Accepted}
use Rattle.decision_book.proofs.Scripts.{situation_of_journal, after_decision-accepted}
use Rattle.world_core.specs.Taking.{IsAccepted}
use Rattle.world_core.proofs.Accepted.{accepted_at}
use Rattle.world_core.specs.Worlds.{WorldView}
use Rattle.engine_tests.specs.Abreast.{AreAbreast}

-- the result of a book's events is of the book's network
net_of_events : (book : BookView) → (after book.net book.events).net ≡ book.net
net_of_events book = ap (λ (s : Situation). s.net) (situation_of_journal book.net book.events)

-- the world takes what the book accepts
pub world_accepts : (book : BookView) (world : WorldView) (d : Decision) → AreAbreast book world
    → reply (after book.net book.events) d ≡ Accepted → IsAccepted world.net world.clones world.front d
world_accepts book world d h is =
    let s : Situation = after book.net book.events in
    subst (λ f. IsAccepted world.net world.clones f d) h.front
    (subst (λ cs. IsAccepted world.net cs s.front d) h.clones
    (subst (λ (n : Net). IsAccepted n s.clones s.front d) (net_of_events book ∙ h.net) (accepted_at s d is)))

-- the world is then in step with the book
pub abreast_after : (book more : BookView) (world then : WorldView) (d : Decision) → AreAbreast book world
    → reply (after book.net book.events) d ≡ Accepted → more.net ≡ book.net
    → after book.net more.events ≡ after_decision (after book.net book.events) d
    → then ≡ record world { clones = clones_after world.net world.clones d } → AreAbreast more then
abreast_after book more world then d h is of on taken =
    let net : then.net ≡ world.net = ap (λ (w : WorldView). w.net) taken in
    let front : then.front ≡ world.front = ap (λ (w : WorldView). w.front) taken in
    let clones : then.clones ≡ clones_after world.net world.clones d = ap (λ (w : WorldView). w.clones) taken in
    let s : Situation = after book.net book.events in
    let now : after more.net more.events ≡ record s { clones = clones_after s.net s.clones d; calls = s.calls + 1 } =
    ap (λ (n : Net). after n more.events) of ∙ on ∙ after_decision-accepted s d is in
    record {
      net = of ∙ h.net ∙ sym net;
      clones = ap (λ (t : Situation). t.clones) now
          ∙ ap (λ (n : Net). clones_after n s.clones d) (net_of_events book ∙ h.net)
          ∙ ap (λ cs. clones_after world.net cs d) h.clones
          ∙ sym clones;
      front = ap (λ (t : Situation). t.front) now ∙ h.front ∙ sym front;
    }
