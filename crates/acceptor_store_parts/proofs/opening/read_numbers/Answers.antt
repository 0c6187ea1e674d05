use Rattle.std.proofs.Common.{inl, sym, ◌∙◌, arith}
use Rattle.acceptor_store_parts.proofs.Words.{HasCleanDisk, IfSome_then, state, survives_then, survives_weaker, version_for}
use Rattle.acceptor_store_parts.proofs.Kept.{still_at}
use Rattle.acceptor_store_parts.proofs.Numbers.{same_numbers}
use Rattle.acceptor_store_parts.proofs.Owners.{as_version}
use Rattle.acceptor_store_parts.proofs.opening.read_numbers.Goals as goal

pub returns-in-Ok-clause-value : goal.returns-in-Ok-clause-value
returns-in-Ok-clause-value g c clean =
    IfSome_then c.both_numbers.result c.both_numbers.ensures.some (λ r some d was. same_numbers c.args.version _ _ d.tried d.row (sym some ∙ (c.as_slice.ensures.value ∙ c.in-Ok.ensures.value clean c.args.version d was)))

pub returns-in-Ok-clause-survives : goal.returns-in-Ok-clause-survives
returns-in-Ok-clause-survives g c =
    survives_weaker (state g.S.Store c.args.conn.now) (state g.S.Store c.query_numbers.new.conn) _ _ (λ _ db other d was. other (version_for was.0) (was.1.schema ∙ as_version was.0)) c.query_numbers.ensures.survives

pub returns-in-Err-clause-survives : goal.returns-in-Err-clause-survives
returns-in-Err-clause-survives g c =
    survives_then (state g.S.Store c.args.conn.now) (state g.S.Store c.query_numbers.new.conn) (state g.S.Store c.stop_for.new.conn) _ _ _ (λ _ db other d was. other (version_for was.0) (was.1.schema ∙ as_version was.0)) (λ _ db no. absurd no) c.query_numbers.ensures.survives c.stop_for.ensures.survives

pub returns-in-Ok-clause-stays : goal.returns-in-Ok-clause-stays
returns-in-Ok-clause-stays g c clean _ = (c.in-Ok.ensures.ok clean).1

pub returns-in-Err-clause-stays : goal.returns-in-Err-clause-stays
returns-in-Err-clause-stays g c clean leaves owner n x was =
    let mid = state g.S.Store c.query_numbers.new.conn in
    let sure : HasCleanDisk mid = omega (arith, c.stop_for.ensures.survives.clean, clean) in
    let up = c.stop_for.ensures.up clean leaves in
    still_at owner n mid (state g.S.Store c.stop_for.new.conn) x (c.in-Err.ensures.err sure up.0.was_open owner n x was) (inl up) up.0.is_open
