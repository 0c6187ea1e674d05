use Rattle.std.proofs.Common.{◌≡◌, Bool, false, true, IsTrue, not, refl, rules, sym, subst, ◌∙◌}
use Rattle.acceptor_store_parts.proofs.Shapes.{all_shown}
use Rattle.acceptor_store_parts.proofs.Words.{AreRowsFrom}
use Rattle.acceptor_store_parts.proofs.wrong.has_wrong_votes.Goals as goal

no_order : (b : Bool) → IsTrue (not b) → b ≡ false
no_order false h = refl
no_order true h = search rules

order : (b : Bool) → not b ≡ false → IsTrue b
order true h = search rules
order false h = search rules

pub returns-in-Ok-read_votes-clause-wrong : goal.returns-in-Ok-read_votes-clause-wrong
returns-in-Ok-read_votes-clause-wrong g c clean wrong version schema votes holds =
    let shown = c.in-Ok.ensures.value clean version votes schema holds.rising holds.rows in
    let same : c.in-Ok-read_votes.votes ≡ votes = all_shown c.in-Ok-read_votes.votes votes (sym c.in-Ok-read_votes.ensures.ok ∙ (c.as_slice.ensures.value ∙ shown)) in
    c.are_in_order.ensures.no (no_order c.are_in_order.result wrong) (subst (AreRowsFrom 1) (sym (c.rows.ensures ∙ same)) holds.rising)

pub returns-in-Ok-read_votes-clause-right : goal.returns-in-Ok-read_votes-clause-right
returns-in-Ok-read_votes-clause-right g c clean right sound version schema shaped =
    let votes = c.in-Ok-read_votes.votes in (
      votes,
      record {
        rows = c.in-Ok.ensures.held clean version (record { schema = schema; sound = sound; shaped = shaped }) votes (sym c.as_slice.ensures.value ∙ c.in-Ok-read_votes.ensures.ok);
        casts = c.in-Ok-read_votes.ensures.fits;
        rising = subst (AreRowsFrom 1) c.rows.ensures (c.are_in_order.ensures.yes (order c.are_in_order.result right));
      },
    )

pub returns-in-Err-Down-clause-wrong : goal.returns-in-Err-Down-clause-wrong
returns-in-Err-Down-clause-wrong g c clean wrong version schema votes holds =
    c.in-Err-Down.ensures.wrong c.in-Err-Down.field-0-is votes holds.casts (c.as_slice.ensures.value ∙ c.in-Ok.ensures.value clean version votes schema holds.rising holds.rows)
