-- Entries are the same exactly when they are equal.
use Rattle.std.proofs.Common.{◌≡◌, ◌==◌, ◌&&◌, true, refl, ap, eqb-true, eq-eqb, subst}
use Rattle.std.specs.Bool.{Decides}
use Rattle.std.specs.Cmp.{tied_itself, Equal-is}
use Rattle.std.specs.Ordering.{is_eq}
use Rattle.std.proofs.lemmas.Bool.{false≢true, and_parts, and_from}
use Rattle.sim_base.specs.Order.{msg_cmp}
use Rattle.sim_base.specs.Same.{same_line, same_entry}
use Rattle.sim_base.specs.declared.message.Msg.{Msg}
use Rattle.sim_base.specs.declared.entry.Entry.{Entry}
use Rattle.sim_base.specs.declared.entry.Line.{Line}
use Rattle.sim_base.specs.declared.entry.Line.TheVariants.{Source, Server, Passed, Sink}
use Rattle.sim_base.proofs.OrderLaws.{msg_total}
use Rattle.sim_base.proofs.OrderEqual.{msg_same}

-- ---- same_line

-- lines of the same counts are equal
line_equal : (a b : Line) → same_line a b ≡ true → a ≡ b
line_equal (Source s) (Source t) e = ap Source (eqb-true s t e)
line_equal (Source s) (Server b w d l) e = absurd (false≢true e)
line_equal (Source s) (Passed p) e = absurd (false≢true e)
line_equal (Source s) (Sink g y) e = absurd (false≢true e)
line_equal (Server b w d l) (Source s) e = absurd (false≢true e)
line_equal (Server b w d l) (Server b2 w2 d2 l2) e =
    let h = and_parts (b == b2 && w == w2) (d == d2 && l == l2) e in
    let f = and_parts (b == b2) (w == w2) h.0 in
    let g = and_parts (d == d2) (l == l2) h.1 in
    let p = eqb-true b b2 f.0 in
    let q = eqb-true w w2 f.1 in
    let r = eqb-true d d2 g.0 in
    let t = eqb-true l l2 g.1 in
    λ i. Server (p i) (q i) (r i) (t i)
line_equal (Server b w d l) (Passed p) e = absurd (false≢true e)
line_equal (Server b w d l) (Sink g y) e = absurd (false≢true e)
line_equal (Passed p) (Source s) e = absurd (false≢true e)
line_equal (Passed p) (Server b w d l) e = absurd (false≢true e)
line_equal (Passed p) (Passed q) e = ap Passed (eqb-true p q e)
line_equal (Passed p) (Sink g y) e = absurd (false≢true e)
line_equal (Sink g y) (Source s) e = absurd (false≢true e)
line_equal (Sink g y) (Server b w d l) e = absurd (false≢true e)
line_equal (Sink g y) (Passed p) e = absurd (false≢true e)
line_equal (Sink g y) (Sink g2 y2) e = let h = and_parts (g == g2) (y == y2) e in let p = eqb-true g g2 h.0 in let q =
    eqb-true y y2 h.1 in λ i. Sink (p i) (q i)

-- a line has its own counts
line_itself : (a : Line) → same_line a a ≡ true
line_itself (Source s) = eq-eqb s s refl
line_itself (Server b w d l) =
    and_from (b == b && w == w) (d == d && l == l) (and_from (b == b) (w == w) (eq-eqb b b refl) (eq-eqb w w refl))
    (and_from (d == d) (l == l) (eq-eqb d d refl) (eq-eqb l l refl))
line_itself (Passed p) = eq-eqb p p refl
line_itself (Sink g y) = and_from (g == g) (y == y) (eq-eqb g g refl) (eq-eqb y y refl)

-- ---- same_entry

-- two entries are the same exactly if they are equal
pub same_entry-Decides : (x y : Entry Msg Line) → Decides (same_entry x y) (x ≡ y)
same_entry-Decides x y = (
  (λ e.
      let h = and_parts (is_eq (msg_cmp x.msg y.msg)) (same_line x.line y.line) e in
      let m = msg_same x.msg y.msg ((Equal-is (msg_cmp x.msg y.msg)).0 h.0) in
      let l = line_equal x.line y.line h.1 in
      λ i. record { msg = m i; line = l i }),
  (λ e. subst (λ z. same_entry x z ≡ true) e
      (and_from (is_eq (msg_cmp x.msg x.msg)) (same_line x.line x.line) (ap is_eq (tied_itself msg_total x.msg))
      (line_itself x.line))),
)
