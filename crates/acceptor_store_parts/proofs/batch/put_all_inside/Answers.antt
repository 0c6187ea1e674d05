use Rattle.std.proofs.Common.{refl, ◌∙◌, ◌+◌, arith}
use Rattle.std.proofs.lemmas.Option.{slice_get-get_or}
use Rattle.acceptor_store_parts.proofs.Words.{state, HasCleanDisk}
use Rattle.acceptor_store_parts.proofs.Batches.{survives_same, keeps_same, keeps_then, one_more}
use Rattle.acceptor_store_parts.proofs.Makes.{inside_then}
use Rattle.acceptor_store_parts.proofs.batch.put_all_inside.Goals as goal

pub loop-bytes-init : goal.loop-bytes-init
loop-bytes-init g c = record {
  reference = refl;
  put = λ clean inside. (inside, λ owner n x was. (x, refl, was));
  kept = λ clean inside. keeps_same _;
  survives = survives_same _;
}

pub loop-bytes-preserved : goal.loop-bytes-preserved
loop-bytes-preserved g c =
    let old = state g.S.Store c.args.tx.now.conn.now in
    let mid = state g.S.Store c.loop-bytes.tx.conn.now in
    let new = state g.S.Store c.put_inside.new.tx.conn.now in
    let earlier : HasCleanDisk new → HasCleanDisk mid = λ clean. omega (arith, c.put_inside.ensures.survives.clean, clean) in
    let there = slice_get-get_or c.args.writes.now c.loop-bytes.bytes-index _ c.loop-bytes-test.true in
    record {
      reference = c.put_inside.ensures.same_reference ∙ c.loop-bytes.invariant.reference;
      put = λ clean inside.
          let before = c.loop-bytes.invariant.put (earlier clean) inside in
          one_more c.args.id c.args.writes.now c.loop-bytes.bytes-index (c.loop-bytes.bytes-index + 1) _ _ old mid new (omega arith) there c.in-Some.ensures.some before (c.in_ok-put_inside.ensures.put clean before.0);
      kept = λ clean inside.
          let before = c.loop-bytes.invariant.put (earlier clean) inside in
          keeps_then old mid new (c.loop-bytes.invariant.kept (earlier clean) inside) (c.put_inside.ensures.kept clean before.0);
      survives = inside_then c.loop-bytes.invariant.survives c.put_inside.ensures.survives;
    }

pub returns-in_err-put_inside-clause-kept : goal.returns-in_err-put_inside-clause-kept
returns-in_err-put_inside-clause-kept g c clean inside =
    let old = state g.S.Store c.args.tx.now.conn.now in
    let mid = state g.S.Store c.loop-bytes.tx.conn.now in
    let new = state g.S.Store c.put_inside.new.tx.conn.now in
    let earlier : HasCleanDisk mid = omega (arith, c.put_inside.ensures.survives.clean, clean) in
    let before = c.loop-bytes.invariant.put earlier inside in
    keeps_then old mid new (c.loop-bytes.invariant.kept earlier inside) (c.put_inside.ensures.kept clean before.0)

pub returns-in_err-put_inside-clause-survives : goal.returns-in_err-put_inside-clause-survives
returns-in_err-put_inside-clause-survives g c = inside_then c.loop-bytes.invariant.survives c.put_inside.ensures.survives
