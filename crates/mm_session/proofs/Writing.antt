-- Bytes that a writer gained, one after another.
use Rattle.std.proofs.Common.{ℕ, List, ◌++◌, Option, Some, None, sym, ap, ◌∙◌, append_assoc, append-nil, [], refl, subst}
use Rattle.std.specs.Io.KnownBytes.{Appends, Keeps, Consumes}

pub Appends-append : (a b c : Option (List ℕ)) (x y : List ℕ) → Appends a b x → Appends b c y → Appends a c (x ++ y)
Appends-append None b c x y h k = tt
Appends-append (Some xs) None c x y h k = absurd h
Appends-append (Some xs) (Some ys) None x y h k = absurd k
Appends-append (Some xs) (Some ys) (Some zs) x y h k = k ∙ ap (λ bs. bs ++ y) h ∙ append_assoc xs x y

pub Appends-nothing : (a : Option (List ℕ)) → Appends a a []
Appends-nothing None = tt
Appends-nothing (Some xs) = sym (append-nil xs)

pub Appends-kept : (a b : Option (List ℕ)) → Keeps a b → Appends a b []
Appends-kept None b h = tt
Appends-kept (Some xs) None h = absurd h
Appends-kept (Some xs) (Some ys) h = h ∙ sym (append-nil xs)

pub Appends-keeps : (a b c : Option (List ℕ)) (x : List ℕ) → Appends a b x → Keeps b c → Appends a c x
Appends-keeps a b c x h k = subst (Appends a c) (append-nil x) (Appends-append a b c x [] h (Appends-kept b c k))

-- ---- bytes that a reader gave, one after another

pub Consumes-append : (a b c : Option (List ℕ)) (x y : List ℕ) → Consumes a b x → Consumes b c y → Consumes a c (x ++ y)
Consumes-append None b c x y h k = tt
Consumes-append (Some xs) None c x y h k = absurd h
Consumes-append (Some xs) (Some ys) None x y h k = absurd k
Consumes-append (Some xs) (Some ys) (Some zs) x y h k = h ∙ ap (λ bs. x ++ bs) k ∙ sym (append_assoc x y zs)

pub Consumes-nothing : (a : Option (List ℕ)) → Consumes a a []
Consumes-nothing None = tt
Consumes-nothing (Some xs) = refl

pub Consumes-kept : (a b : Option (List ℕ)) → Keeps a b → Consumes a b []
Consumes-kept None b h = tt
Consumes-kept (Some xs) None h = absurd h
Consumes-kept (Some xs) (Some ys) h = sym h

pub Consumes-keeps : (a b c : Option (List ℕ)) (x : List ℕ) → Consumes a b x → Keeps b c → Consumes a c x
Consumes-keeps a b c x h k = subst (Consumes a c) (append-nil x) (Consumes-append a b c x [] h (Consumes-kept b c k))
