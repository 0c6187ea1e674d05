use Rattle.std.proofs.Common.{◌≡◌, ◌∙◌, ap}
use Rattle.std.specs.Prelude.{IsTrue}
use Rattle.stored_hosts.proofs.finding.whole.Goals as goal

pub returns-in-Err-2-clause-found : goal.returns-in-Err-2-clause-found
returns-in-Err-2-clause-found c = λ head rows whole.
    let want = c.one_spelling_of_states.ensures.none c.args.file.now.bytes.items c.in-Err.fault head rows (rw c.as_slice.ensures.value at c.in-Err.ensures.fault) whole.state in
    let yes : IsTrue c.is_want.result = c.is_want.ensures.1 want in
    absurd (cc (c.if-is_want.false, yes))

pub returns-else-head-file-clause-found : goal.returns-else-head-file-clause-found
returns-else-head-file-clause-found c = λ head rows whole.
    let same = c.one_spelling_of_states.ensures.one c.args.file.now.bytes.items c.in-Ok.state.0 head c.in-Ok.state.1 rows (rw c.as_slice.ensures.value at c.in-Ok.ensures.state) whole.state in
    let epoch : c.in-Ok.state.0.epoch ≡ c.args.file.now.epoch = ap (λ h. h.epoch) same.0 ∙ whole.epoch in
    absurd (c.if-head-file.false epoch)
