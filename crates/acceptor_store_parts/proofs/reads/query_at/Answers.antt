use Rattle.std.proofs.Common.{inl, rules, SFits, w64, arith}
use Rattle.acceptor_store_parts.proofs.Words.{to_z-of_z, HasCleanDisk, State, state, survives_then, survives_weaker}
use Rattle.acceptor_store_parts.proofs.Words.{DoesNotServe, Asked}
use Rattle.sqlite.specs.State.{CommitsShowing}
use Rattle.sqlite.specs.Tree.{Trees}
use Rattle.acceptor_store_parts.specs.Asked.{text_of}
use Rattle.acceptor_store_parts.proofs.Answered.{asked_found, asked_plain}
use Rattle.acceptor_store_parts.proofs.Kept.{all_ok, all_err, still_at, writes_none}
use Rattle.acceptor_store_parts.proofs.reads.query_at.Goals as goal

-- a query of what is served writes nothing
none_of : (asked : Asked) (params : _) (old : State) (db : Trees) → CommitsShowing (text_of asked) params old db → DoesNotServe old
none_of asked params old db may d was = writes_none (text_of asked) params old _ was.1.schema (asked_plain asked was.0) db may

pub returns-in-Ok-clause-value : goal.returns-in-Ok-clause-value
returns-in-Ok-clause-value g c clean =
    let fits : SFits w64 c.signed_place.result = search rules in
    asked_found (state g.S.Store c.args.conn.now) (state g.S.Store c.query_all.new.self) c.in-Ok.rows.items c.args.asked c.args.place
    (rw (to_z-of_z, c.signed_place.ensures.value, c.text_of.ensures) at (c.in-Ok.ensures.ok clean))

pub returns-in-Ok-clause-stays : goal.returns-in-Ok-clause-stays
returns-in-Ok-clause-stays g c clean _ =
    (all_ok (text_of c.args.asked) _ (state g.S.Store c.args.conn.now) (state g.S.Store c.query_all.new.self) (asked_plain c.args.asked) c.in-Ok.rows.items (rw c.text_of.ensures at (c.in-Ok.ensures.ok clean))).1

pub returns-in-Err-clause-stays : goal.returns-in-Err-clause-stays
returns-in-Err-clause-stays g c clean leaves owner n x was =
    let mid = state g.S.Store c.query_all.new.self in
    let sure : HasCleanDisk mid = omega (arith, c.stop_for.ensures.survives.clean, clean) in
    let up = c.stop_for.ensures.up clean leaves in
    let there = all_err (text_of c.args.asked) _ (state g.S.Store c.args.conn.now) mid (asked_plain c.args.asked) c.in-Err.error (rw c.text_of.ensures at (c.in-Err.ensures.err sure)) up.0.was_open owner n x was in
    still_at owner n mid (state g.S.Store c.stop_for.new.conn) x there (inl up) up.0.is_open

pub returns-in-Ok-clause-survives : goal.returns-in-Ok-clause-survives
returns-in-Ok-clause-survives g c =
    survives_weaker (state g.S.Store c.args.conn.now) (state g.S.Store c.query_all.new.self) _ _ (λ _. none_of c.args.asked _ _) (rw c.text_of.ensures at c.query_all.ensures.survives)

pub returns-in-Err-clause-survives : goal.returns-in-Err-clause-survives
returns-in-Err-clause-survives g c =
    survives_then (state g.S.Store c.args.conn.now) (state g.S.Store c.query_all.new.self) (state g.S.Store c.stop_for.new.conn) _ _ _ (λ _. none_of c.args.asked _ _) (λ _ db no. absurd no) (rw c.text_of.ensures at c.query_all.ensures.survives) c.stop_for.ensures.survives
