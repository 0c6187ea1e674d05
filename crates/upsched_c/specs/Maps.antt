-- What calls on an open MAP do.
use Rattle.std.specs.Prelude.{◌≡◌, ℕ, List, Option, Some, None}
use Rattle.map_body.specs.Body.{Body}
use Rattle.map_body.specs.Layout.{IsBody, FirstFault}
use Rattle.upsched_c.specs.declared.handle.Held.{Held}
use Rattle.upsched_c.specs.declared.handle.Held.TheVariants as holds
use Rattle.upsched_c.specs.declared.status.Status.{Status}
use Rattle.upsched_c.specs.declared.status.Status.TheVariants as statuses

-- a handle is opened with the body that bytes are: a closed one is open then, or stays closed where they are none or
-- memory is wanted; an open one stays as it is
abbrev pub OpensMap : List ℕ → Option Held → Option Held → Status → Type 0
OpensMap bytes None new statuses.Done = (body : Body) × IsBody bytes body × (new ≡ Some (holds.Map body))
OpensMap bytes None new (statuses.Map fault) = FirstFault bytes fault × (new ≡ None)
OpensMap bytes None new statuses.OutOfMemory = (body : Body) × IsBody bytes body × (new ≡ None)
OpensMap bytes None new _ = ⊥
OpensMap bytes (Some h) new status = (status ≡ statuses.Open) × (new ≡ Some h)
