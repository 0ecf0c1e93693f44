-- Bytes that a responder takes one after another.
use Rattle.std.proofs.Common.{◌≡◌, ℕ, List, ◌++◌, Option, Some, None, sym, ap, ◌∙◌, subst, append_assoc}
use Rattle.mm_session.specs.declared.stream.responder.Responder.{Responder}
use Rattle.mm_session.specs.Kept.{Keeps}
use Rattle.mm_session.specs.Responding.{Takes, GoesOn, Completes}

module _ (before after : List ℕ → Type 0) (old new : Responder) (front : List ℕ) (first : (rest : List ℕ) → before rest → after (rest ++ front)) where
  goes_on-behind : (more : List ℕ) → GoesOn after old new more → GoesOn before old new (front ++ more)
  goes_on-behind more (same, keeps) =
      (same, λ rest is. subst (λ r. Keeps old.executor.tables.catalog.limits r new.kept) (append_assoc rest front more) (keeps (rest ++ front) (first rest is)))

  completes-behind : (more : List ℕ) → Completes after old new more → Completes before old new (front ++ more)
  completes-behind more (none, ends) = (
    none,
    λ rest is.
        let (request, whole, bytes, answered) = ends (rest ++ front) (first rest is) in
        (request, whole, sym (append_assoc rest front more) ∙ bytes, answered),
  )

  -- more bytes are taken behind the front, whatever the rest with the front is
  pub takes-behind : (bytes more : List ℕ) (others : Option (List ℕ)) → bytes ≡ front ++ more → Takes after old new more others → Takes before old new bytes others
  takes-behind bytes more None whole goes = subst (GoesOn before old new) (sym whole) (goes_on-behind more goes)
  takes-behind bytes more (Some behind) whole (last, parts, completes) =
      (front ++ last, whole ∙ ap (λ m. front ++ m) parts ∙ sym (append_assoc front last behind), completes-behind last completes)
