-- Why there is no deed.
use Rattle.std.proofs.Common.{◌≡◌, ℕ, inl, inr, List, Result, Ok, Err, IfErr, refl, subst, IsTrue}
use Rattle.map_body.specs.Body.{Body}
use Rattle.map_body.specs.Layout.{IsBody, ReadingFault}
use Rattle.map_body.specs.Intervals.{intervals}
use Rattle.map_body.specs.declared.fault.MapFault.{MapFault}
use Rattle.map_body.specs.declared.fault.MapFault.TheVariants.{Short, Trailing, Expansion, OutOfOrder, NoNull}
use Rattle.map_body.specs.declared.fault.MapFault.TheVariants.{OutOfMemory, TooMany}
use Rattle.map_body.proofs.Callers.{one_body, body_no_fault}
use Rattle.grant_machine.specs.declared.command.Command.{Command}
use Rattle.grant_machine.specs.declared.output.Output.{Output}
use Rattle.grant_machine.specs.declared.output.Output.TheVariants as outputs
use Rattle.plan_account.specs.Cover.{follow}
use Rattle.plan_account.specs.declared.deed.Deed.{Deed}
use Rattle.plan_account.specs.Deeds.{BodyFault, IsDeedOf, IsDeedFault}

-- a reader's fault
pub of_reading : (len : ℕ) (bytes : List ℕ) (fault : MapFault) → ReadingFault bytes fault → (fault ≡ OutOfMemory → (map : Body) × IsBody bytes map)
    → BodyFault len bytes fault
of_reading len bytes Short r m = r
of_reading len bytes Trailing r m = r
of_reading len bytes (Expansion i) r m = r
of_reading len bytes (OutOfOrder i) r m = inl r
of_reading len bytes NoNull r m = r
of_reading len bytes OutOfMemory r m = m refl
of_reading len bytes TooMany r m = r

-- a body that has each minislot
only_of_map : (len : ℕ) (bytes : List ℕ) (body : Body) (fault : MapFault) → IsBody bytes body → IsTrue (follow 0 (intervals body.elements) len)
    → BodyFault len bytes fault → fault ≡ OutOfMemory
only_of_map len bytes body Short p w f = absurd (body_no_fault bytes body Short p f)
only_of_map len bytes body Trailing p w f = absurd (body_no_fault bytes body Trailing p f)
only_of_map len bytes body (Expansion i) p w f = absurd (body_no_fault bytes body (Expansion i) p f)
only_of_map len bytes body (OutOfOrder i) p w (inl f) = absurd (body_no_fault bytes body (OutOfOrder i) p f)
only_of_map len bytes body (OutOfOrder i) p w (inr f) =
    absurd (f.3 (subst (λ (b : Body). IsTrue (follow 0 (intervals b.elements) len)) (one_body bytes body f.1 p f.2) w))
only_of_map len bytes body NoNull p w f = absurd (body_no_fault bytes body NoNull p f)
only_of_map len bytes body OutOfMemory p w f = refl
only_of_map len bytes body TooMany p w f = absurd f

-- where there is a deed, nothing but want of memory is a fault
pub only_memory : (c : Command) (o : Output) (d : Deed) (fault : MapFault) → IsDeedOf c o d → IsDeedFault o fault → fault ≡ OutOfMemory
only_memory c (outputs.Map ch start len bytes) d fault (m, (body, p, w, shown), same) f = only_of_map len bytes body fault p w f
only_memory c outputs.Nothing d fault is f = absurd f
only_memory c (outputs.ChannelSet ch ucd) d fault is f = absurd f
only_memory c (outputs.Assigned modem ch sid first last) d fault is f = absurd f
only_memory c (outputs.Refused number) d fault is f = absurd f

pub given_of : (c : Command) (o : Output) (d : Deed) (r : Result Deed MapFault) → IsDeedOf c o d → IfErr r (IsDeedFault o) → IfErr r (λ fault. fault ≡ OutOfMemory)
given_of c o d (Ok x) is f = f
given_of c o d (Err fault) is f = only_memory c o d fault is f
