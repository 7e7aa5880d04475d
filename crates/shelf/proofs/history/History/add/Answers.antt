use Rattle.std.proofs.Common.{◌≡◌, ◌++◌, ◌∷◌, [], true, sym, ◌∙◌, ap, arith, length, length-append, subst, List}
use Rattle.phys_proc.specs.Racks.{RackView}
use Rattle.shelf.specs.Racks.{AreLegal, MayBePublished}
use Rattle.shelf.specs.Rules.{racks_from, with_first}
use Rattle.shelf.proofs.Legals.{AreLegal-push}
use Rattle.shelf.proofs.Adding.{adds_moves}
use Rattle.shelf.proofs.history.History.add.Goals as goal

pub compare_exchange-requires : goal.compare_exchange-requires
compare_exchange-requires g c =
    let writer = c.self.invariant in
    let offer = c.plain-offer.ensures in
    let h = writer.head_is in (
      ap (λ w. w.tracked) h,
      writer.seen_book_is ∙ sym (ap (λ w. w.book) h),
      writer.pen_book_is ∙ sym (ap (λ w. w.book) h),
      offer.0,
      rw (ap (λ w. w.key) h, offer.3)
          (adds_moves c.self.inside.seen.log c.plain-offer.result.ask c.self.inside.pen.nib writer.pen_may
          (sym (ap (λ e. e.used) offer.1))),
    )

pub invariant_of-self : goal.invariant_of-self
invariant_of-self g c =
    let writer = c.self.invariant in
    let start = g.J.Naming.start in
    let offer = c.plain-offer.ensures in
    let told = c.compare_exchange.ensures.7 start (sym writer.pen_is_next ∙ sym (ap (λ e. e.used) offer.1)) in
    let old : List RackView = racks_from start c.self.inside.seen.log in
    let racks : racks_from start c.compare_exchange.new.seen.log ≡ old ++ c.args.rack.now ∷ [] =
    told.0 ∙ ap (λ e. old ++ with_first true e.rack []) offer.1 in
    let may : MayBePublished old c.args.rack.now = rw c.self.view_is c.requires.may in
    record {
      head_is = writer.head_is;
      pen_book_is = c.give_pen-next.ensures.pen.0 ∙ writer.seen_book_is;
      pen_may = c.give_pen-next.ensures.pen.1;
      pen_is_next = sym (told.1 ∙ ap (λ e. e.next) offer.1);
      seen_book_is = c.compare_exchange.ensures.0 ∙ writer.seen_book_is;
      count_is = omega (arith, writer.count_is, ap length racks, length-append old (c.args.rack.now ∷ []));
      legal = subst AreLegal (sym racks) (AreLegal-push old c.args.rack.now writer.legal may);
    }
