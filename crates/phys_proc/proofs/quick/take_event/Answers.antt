use Rattle.stations.specs.Quick.{sends_of}
use Rattle.phys_proc.proofs.quick.take_event.Goals as goal

pub returns-clause-taken : goal.returns-clause-taken
returns-clause-taken g c = record {
  set = c.in_ok-send_quick.ensures.set;
  sends = sends_of c.in_ok-sends.sends;
  line = c.in_ok-sends.line;
  handles = c.in_ok-sends.ensures.ok;
  log = c.in_ok-push_packed.ensures.ok;
  pending = c.in_ok-send_quick.ensures.pending;
  aside = c.in_ok-send_quick.ensures.aside;
  fits = c.in_ok-sends.ensures.fits;
  suits = c.in_ok-sends.ensures.suits;
  station = c.in_ok-sends.ensures.own;
  handled = c.in_ok-sends.ensures.one_more;
}
