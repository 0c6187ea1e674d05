use Rattle.std.proofs.Common.{◌∙◌, arith, length, subst}
use Rattle.sqlite_disk.specs.Disk.{Holds, Torn}
use Rattle.stored_nodes.proofs.Copied.{copied_whole}
use Rattle.stored_nodes.proofs.copies.copied.Goals as goal

pub returns-in-Ok-clause-same : goal.returns-in-Ok-clause-same
returns-in-Ok-clause-same g c clean =
    let then = c.read_at.ensures.clean clean in
    copied_whole _ c.read_at.new.buf c.resize.new.self.items c.as_slice.result.now _ c.resize.new.self.len c.as_slice.ensures.value (c.read_at.auto.buf ∙ c.as_mut_slice.ensures.len)
    (c.in_ok-resize.ensures.len ∙ c.in_ok-length.ensures.len then) (λ some. subst (λ xs. Holds xs 0 c.read_at.new.buf) c.len.ensures.seen (c.in_ok-read_at.ensures.read clean (omega (arith, some, c.read_at.auto.buf))))
    c.in-Ok.ensures.written (subst (λ xs. Torn 0 (length c.as_slice.result.now) xs c.write_at.new.self.bytes.items) c.new-copy.ensures.empty c.in-Ok.ensures.others)
