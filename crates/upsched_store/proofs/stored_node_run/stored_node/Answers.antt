use Rattle.std.proofs.Common.{◌∙◌, ap, sym}
use Rattle.upsched_store.specs.Stops.{status_of}
use Rattle.upsched_node.proofs.Callers.{one_member}
use Rattle.upsched_store.proofs.stored_node_run.stored_node.Goals as goal

pub returns-in-Ok-clause-named : goal.returns-in-Ok-clause-named
returns-in-Ok-clause-named g c id count names =
    let same = one_member _ _ _ id _ count c.in-Some.ensures names in
    rw same.0 (rw same.1 (c.serve_over.result, sym (ap status_of c.in-Ok.is), c.serve_over.ensures.runs))

pub returns-in-Ok-clause-unnamed : goal.returns-in-Ok-clause-unnamed
returns-in-Ok-clause-unnamed g c none = absurd (none c.in-Some.id c.in-Some.members c.in-Some.ensures')

pub returns-in-Err-clause-named : goal.returns-in-Err-clause-named
returns-in-Err-clause-named g c id count names =
    let same = one_member _ _ _ id _ count c.in-Some.ensures names in
    rw same.0 (rw same.1 (c.serve_over.result, c.tell_stopped.ensures ∙ sym (ap status_of c.in-Err.is), c.serve_over.ensures.runs))

pub returns-in-Err-clause-unnamed : goal.returns-in-Err-clause-unnamed
returns-in-Err-clause-unnamed g c none = absurd (none c.in-Some.id c.in-Some.members c.in-Some.ensures')
