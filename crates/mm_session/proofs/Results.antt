-- What a clause on one variant of a result says.
use Rattle.std.proofs.Common.{◌≡◌, true, false, Result, Ok, Err, OnOk, OnErr}
use Rattle.std.specs.Prelude.{is_err, IsErrOf}

pub on_ok : {T E : Type 0} (r : Result T E) (P : Type 0) → false ≡ is_err r → OnOk r P → P
on_ok (Ok x) P h p = p
on_ok (Err e) P h p = cc

pub on_err : {T E : Type 0} (r : Result T E) (e : E) (P : Type 0) → IsErrOf r e → OnErr r P → P
on_err (Ok x) e P h p = cc
on_err (Err d) e P h p = p

pub OnOk-map : {T E : Type 0} (r : Result T E) (P Q : Type 0) → (P → Q) → OnOk r P → OnOk r Q
OnOk-map (Ok x) P Q f p = f p
OnOk-map (Err e) P Q f p = tt

pub on_error : {T E : Type 0} (r : Result T E) (P : Type 0) → true ≡ is_err r → OnErr r P → P
on_error (Ok x) P h p = cc
on_error (Err e) P h p = p
