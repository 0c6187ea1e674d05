use Rattle.std.proofs.Common.{◌≡◌, ap, subst, sym}
use Rattle.map_picture.specs.Pictures.{Stack}
use Rattle.map_picture.specs.Wedges.{IsInOrder}
use Rattle.map_picture.proofs.drawn.add_channel.Goals as goal

pub add_rows-requires-clause-order : goal.add_rows-requires-clause-order
add_rows-requires-clause-order c =
    let sent : c.all.inside.sent.now ≡ c.args.all.now.sent = ap (λ (v : Stack). v.sent) c.all.view_is in
    subst IsInOrder (sym sent) c.requires.order

pub returns : goal.returns
returns c =
    let account : c.all.inside.account.now ≡ c.args.all.now.account = ap (λ (v : Stack). v.account) c.all.view_is in
    let sent : c.all.inside.sent.now ≡ c.args.all.now.sent = ap (λ (v : Stack). v.sent) c.all.view_is in
    rw (
      c.as_slice.ensures.value,
      c.as_slice-2.ensures.value,
      c.as_slice-3.ensures.value,
      c.as_slice-4.ensures.value,
      c.in_ok-columns.ensures,
      c.deref.ensures.value,
      c.deref-2.ensures.value,
      c.in_ok-numbers.ensures,
      c.in_ok-owners.ensures.rows,
      c.in_ok-requests.ensures.rows,
      c.in_ok-maps.ensures.rows,
      c.span_of-span.ensures,
      c.leases.ensures,
      c.requests.ensures,
      c.deeds-deeds.ensures,
      account,
      sent,
    ) at c.add_rows.ensures
