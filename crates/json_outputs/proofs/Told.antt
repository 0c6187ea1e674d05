-- What is said of outputs, from what each step left.
use Rattle.std.proofs.Common.{◌≡◌, ◌≢◌, ℕ, List, codes, Result, Ok, Err, IfOk, OnOk, inr, sym, ap, ◌∙◌, subst}
use Rattle.std.proofs.Common.{string_bytes, String, BTreeMap, Global}
use Rattle.map_body.specs.Body.{Body}
use Rattle.map_body.specs.Layout.{IsBody}
use Rattle.map_body.specs.declared.fault.MapFault.{MapFault}
use Rattle.map_body.specs.declared.fault.MapFault.TheVariants.{OutOfMemory}
use Rattle.serde_json.specs.Data.{Data, null, Members, no_members, put}
use Rattle.serde_json.specs.View.{view, members_view}
use Rattle.serde_json.specs.declared.value.Value.{Value, Object}
use Rattle.serde_json.proofs.Views.{view-Object}
use Rattle.grant_machine.specs.declared.output.Output.{Output}
use Rattle.json_outputs.specs.Fields.{with_number}
use Rattle.json_outputs.specs.Outputs.{TellsElements, TellsOutput, TellsCommand}
use Rattle.json_outputs.specs.Texts.{IsPlain, IsTextOf, IsTextWhere}
use Rattle.json_outputs.proofs.Callers.{command_plain}

-- bytes that are no body
pub none_told : {E : Type 0} (bytes : List ℕ) (fault : MapFault) (r : Result Value E) → ((map : Body) → IsBody bytes map → fault ≡ OutOfMemory)
    → IfOk r (λ v. (fault ≢ OutOfMemory) × (view v ≡ null)) → IfOk r (λ v. TellsElements bytes (view v))
none_told bytes fault (Ok v) only told = inr ((λ map body. told.0 (only map body)), told.1)
none_told bytes fault (Err e) only told = tt

-- the elements, behind the other fields of a MAP
pub map_told : {T E : Type 0} (r : Result T E) (shown : Data) (bytes : List ℕ) (mid head new : Members) → TellsElements bytes shown → mid ≡ head
    → OnOk r (new ≡ put (codes "elements") shown mid) → OnOk r ((d : Data) × TellsElements bytes d × (new ≡ put (codes "elements") d head))
map_told (Ok x) shown bytes mid head new told same grown = (shown, told, grown ∙ ap (put (codes "elements") shown) same)
map_told (Err e) shown bytes mid head new told same grown = tt

-- an object that tells a command
abbrev pub Command : ℕ → Output → BTreeMap (String Global) Value → Type 0
Command number o m = TellsOutput o (with_number (codes "command") number no_members) (members_view m.entries)

pub object_plain : (number : ℕ) (o : Output) (m : BTreeMap (String Global) Value) → Command number o m → IsPlain (view (Object m))
object_plain number o m told =
    let P : Data → Type 0 = λ d. IsPlain d in
    subst P (sym (view-Object m)) (command_plain number o (members_view m.entries) told)

pub object_told : {E : Type 0} (number : ℕ) (o : Output) (m : BTreeMap (String Global) Value) (r : Result (String Global) E) → Command number o m
    → IfOk r (λ text. IsTextOf (view (Object m)) (string_bytes text)) → IfOk r (λ text. IsTextWhere (TellsCommand number o) (string_bytes text))
object_told number o m (Ok text) told is_text = (view (Object m), (members_view m.entries, told, view-Object m), is_text)
object_told number o m (Err e) told is_text = tt
