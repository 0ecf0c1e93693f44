-- Shared: what is said of a session that is the same as another.
use Rattle.std.proofs.Common.{◌≡◌, ℕ, Bool, List, Option, None, refl, subst, sym, Err}
use Rattle.std.specs.Option.{option_map_or}
use Rattle.std.specs.Result.{IsErrOf}
use Rattle.plain_streams.specs.Requests.{Request}
use Rattle.mm_session.specs.OneRequest.{GoesBetween}
use Rattle.mm_session.specs.Sessions.{BreaksOff, Finishes, Gains, State}
use Rattle.mm_session.specs.declared.fault.ReadFault.{ReadFault}
use Rattle.mm_session.specs.declared.fault.ReadFault.TheVariants as reading
use Rattle.mm_session.specs.declared.fault.SessionFault.{SessionFault}
use Rattle.mm_session.specs.declared.fault.SessionFault.TheVariants as session
use Rattle.mm_shared.specs.Faults.{request_fault_of, stream_fault_of}
use Rattle.mm_shared.specs.declared.faults.RequestFault.{RequestFault}
use Rattle.mm_shared.specs.declared.faults.RequestFault.TheVariants as requesting
use Rattle.mm_shared.specs.declared.faults.StreamFault.{StreamFault}
use Rattle.mm_shared.specs.declared.faults.StreamFault.TheVariants as streaming

module _ (old same : State) (is : old ≡ same) where
  pub goes-as : (new : State) (request : Request) (answer : List ℕ) → GoesBetween old new request answer → GoesBetween same new request answer
  goes-as new request answer h = subst (λ (s : State). GoesBetween s new request answer) is h

  pub finishes-as : (before after : Option (List ℕ)) (new : State) → Gains before after (Finishes old new) → Gains before after (Finishes same new)
  finishes-as before after new h = subst (λ (s : State). Gains before after (Finishes s new)) is h

  pub breaks-off-as : (before after : Option (List ℕ)) (new : State) (piece : List ℕ) (finished : Bool)
      → Gains before after (BreaksOff old new piece finished) → Gains before after (BreaksOff same new piece finished)
  breaks-off-as before after new piece finished h = subst (λ (s : State). Gains before after (BreaksOff s new piece finished)) is h

-- what is said of the tables of one's own, where none are shared
pub own-goes : {T : Type 0} (value : T → State) (shared : Option T) (own new : State) → shared ≡ None → (request : Request) (answer : List ℕ) → GoesBetween own new request answer
    → GoesBetween (option_map_or value shared own) (option_map_or value shared new) request answer
own-goes value shared own new none request answer h = subst (λ o. GoesBetween (option_map_or value o own) (option_map_or value o new) request answer) (sym none) h

pub own-finishes : {T : Type 0} (value : T → State) (shared : Option T) (own new : State) → shared ≡ None → (before after : Option (List ℕ)) → Gains before after (Finishes own new)
    → Gains before after (Finishes (option_map_or value shared own) (option_map_or value shared new))
own-finishes value shared own new none before after h = subst (λ o. Gains before after (Finishes (option_map_or value o own) (option_map_or value o new))) (sym none) h

pub own-breaks-off : {T : Type 0} (value : T → State) (shared : Option T) (own new : State) → shared ≡ None → (before after : Option (List ℕ)) (piece : List ℕ) (finished : Bool)
    → Gains before after (BreaksOff own new piece finished)
    → Gains before after (BreaksOff (option_map_or value shared own) (option_map_or value shared new) piece finished)
own-breaks-off value shared own new none before after piece finished h =
    subst (λ o. Gains before after (BreaksOff (option_map_or value o own) (option_map_or value o new) piece finished)) (sym none) h

-- a write fault of a stream is one of its session
pub write-fault : {T : Type 0} (f : SessionFault) → IsErrOf {T = T} {E = StreamFault} (Err (stream_fault_of f)) streaming.Write → f ≡ session.Write
write-fault session.Write is = refl
write-fault session.Ended is = cc

-- a request is declined for what it would change, where tables are only read
pub change-fault : {T : Type 0} (f : ReadFault) → IsErrOf {T = T} {E = RequestFault} (Err (request_fault_of f)) requesting.Shared → f ≡ reading.Changes
change-fault reading.NotOneRequest is = cc
change-fault reading.Changes is = refl
