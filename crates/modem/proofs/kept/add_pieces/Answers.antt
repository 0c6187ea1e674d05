use Rattle.std.proofs.Common.{◌≡◌, ◌+◌, ◌++◌, ◌∷◌, [], List, take, get_or, append_assoc, ap, sym, ◌∙◌}
use Rattle.std.specs.List.{filter_map}
use Rattle.std.proofs.lemmas.List.{take_more}
use Rattle.std.proofs.lemmas.List.Elements.{filter_map-append}
use Rattle.modem.specs.declared.kept.KeptInterval.{KeptInterval}
use Rattle.modem.specs.declared.known.OwnLease.{OwnLease}
use Rattle.modem.specs.KeptIntervals.{piece}
use Rattle.modem.proofs.kept.add_pieces.Goals as goal

-- one lease more
one_more : (k : KeptInterval) (first was now : List KeptInterval) (ls more : List OwnLease) (l : OwnLease) → more ≡ ls ++ l ∷ [] → was ≡ first ++ filter_map (piece k) ls → now ≡ was ++ filter_map (piece k) (l ∷ []) → now ≡ first ++ filter_map (piece k) more
one_more k first was now ls more l same so_far this =
    this
    ∙ ap (λ (ks : List KeptInterval). ks ++ filter_map (piece k) (l ∷ [])) so_far
    ∙ append_assoc first (filter_map (piece k) ls) (filter_map (piece k) (l ∷ []))
    ∙ ap (λ (ks : List KeptInterval). first ++ ks) (sym (filter_map-append (piece k) ls (l ∷ [])) ∙ ap (filter_map (piece k)) (sym same))

pub loop-lease-preserved : goal.loop-lease-preserved
loop-lease-preserved c =
    let none : OwnLease = record { channel = 0; sid = 0; first = 0; last = 0 } in
    let ls = c.args.leases.now in
    let i = c.loop-lease.lease-index in
    one_more c.args.interval.now c.args.covered.now.items c.loop-lease.covered.items c.add_piece.new.covered.items (take i ls) (take (i + 1) ls) (get_or ls i none) (take_more ls i none c.loop-lease-test.true) c.loop-lease.invariant c.in_ok-add_piece.ensures
