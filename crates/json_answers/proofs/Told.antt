-- What is said of an event, from what each step left.
use Rattle.std.proofs.Common.{◌≡◌, ℕ, ◌+◌, ◌<◌, List, [], ◌∷◌, ◌++◌, length, take, get_or, map, subst, codes, Result}
use Rattle.std.proofs.Common.{Ok, Err, IfOk, ap, sym, ◌∙◌, String, BTreeMap, Global, Vec, string_bytes}
use Rattle.std.proofs.lemmas.List.{take_more, map-append}
use Rattle.std.proofs.lemmas.Slice.Zip.{all_zipped_more}
use Rattle.std.specs.List.{AllZip}
use Rattle.seats.specs.declared.answer.ReleasedOutput.{ReleasedOutput}
use Rattle.watched_runs.specs.Rows.{Row}
use Rattle.serde_json.specs.Data.{Data, array, object, Members, no_members, put}
use Rattle.serde_json.specs.View.{view, members_view, items_of}
use Rattle.serde_json.specs.declared.value.Value.{Value, Array, Object}
use Rattle.serde_json.proofs.Views.{view-Array, view-Object}
use Rattle.json_outputs.specs.Fields.{with_number}
use Rattle.json_outputs.specs.Outputs.{TellsOutput}
use Rattle.json_outputs.specs.Texts.{IsPlain, IsTextOf, IsTextWhere}
use Rattle.json_answers.specs.Answers.{with_answer}
use Rattle.json_answers.specs.Events.{TellsRelease, TellsEvent, TellsTraced, event_members, with_trace}
use Rattle.json_answers.proofs.Plain.{event_plain, trace_plain}

-- an output that was released
pub release_said : (x : ReleasedOutput) (m : BTreeMap (String Global) Value) (a b : Members) → a ≡ with_number (codes "node") x.node no_members
    → b ≡ with_number (codes "place") x.numbered.place a → TellsOutput x.numbered.output b (members_view m.entries) → TellsRelease x (view (Object m))
release_said x m a b first second told = (members_view m.entries, (rw (second, first) at told), view-Object m)

-- one output more
pub releases_more : (xs : List ReleasedOutput) (i : ℕ) (x : ReleasedOutput) (vs items : List Value) (v : Value) → i < length xs
    → AllZip TellsRelease (take i xs) (map view vs) → x ≡ get_or xs i x → TellsRelease x (view v) → items ≡ vs ++ v ∷ []
    → AllZip TellsRelease (take (i + 1) xs) (map view items)
releases_more xs i x vs items v below before here told is =
    let P : ReleasedOutput → Type 0 = λ y. TellsRelease y (view v) in
    let whole : take (i + 1) xs ≡ take i xs ++ get_or xs i x ∷ [] = take_more xs i x below in
    let last : TellsRelease (get_or xs i x) (view v) = subst P here told in
    let values : map view items ≡ map view vs ++ view v ∷ [] = ap (map view) is ∙ map-append view vs (v ∷ []) in
    rw (whole, values) (all_zipped_more TellsRelease (take i xs) (map view vs) (get_or xs i x) (view v) before last)

-- an event
pub event_said : (row : Row) (m : BTreeMap (String Global) Value) (v : Vec Value Global) (one two : Members)
    → AllZip TellsRelease row.released (map view v.items) → one ≡ with_number (codes "event") row.number no_members → two ≡ with_answer row.answer one
    → members_view m.entries ≡ put (codes "outputs") (view (Array v)) two → TellsEvent row (object (members_view m.entries))
event_said row m v one two told first second last =
    let f : Data → Members = λ d. put (codes "outputs") d two in
    let g : Members → Members = λ ms. put (codes "outputs") (array (items_of (map view v.items))) ms in
    let fields : members_view m.entries ≡ g (event_members row) = last ∙ (ap f (view-Array v) ∙ ap g (second ∙ ap (with_answer row.answer) first)) in
    (map view v.items, told, ap object fields)

-- with its trace
pub traced_said : (row : Row) (m : BTreeMap (String Global) Value) (one : Members) → TellsEvent row (object one) → members_view m.entries ≡ with_trace row one → TellsTraced row (view (Object m))
traced_said row m one told last = (one, told, view-Object m ∙ ap object last)

pub object_said : (row : Row) (m : BTreeMap (String Global) Value) → TellsEvent row (object (members_view m.entries)) → TellsEvent row (view (Object m))
object_said row m told = subst (TellsEvent row) (sym (view-Object m)) told

pub traced_plain : (row : Row) (d : Data) → TellsTraced row d → IsPlain d
traced_plain row d (ms, told, is) = rw is (trace_plain row ms told)

pub said_plain : (row : Row) (d : Data) → TellsEvent row d → IsPlain d
said_plain row d (outputs, told, is) = rw is (event_plain row outputs told)

pub text_said : {E : Type 0} (r : Result (String Global) E) (P : Data → Type 0) (d : Data) → P d → IfOk r (λ text. IsTextOf d (string_bytes text)) → IfOk r (λ text. IsTextWhere P (string_bytes text))
text_said (Ok text) P d said is_text = (d, said, is_text)
text_said (Err e) P d said is_text = tt
