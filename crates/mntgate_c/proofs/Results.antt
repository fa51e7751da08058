-- What is so of an Ok is so where it is a consequence.
use Rattle.std.{proofs.Common.{IfErr, IfOk}, specs.Prelude.{Err, Ok, Result}}

pub if_ok_then : {A E : Type 0} {P Q : A → Type 0} (r : Result A E) → ((x : A) → P x → Q x) → IfOk r P → IfOk r Q
if_ok_then (Ok x) then p = then x p
if_ok_then (Err e) then p = p

pub if_err_then : {A E : Type 0} {P Q : E → Type 0} (r : Result A E) → ((e : E) → P e → Q e) → IfErr r P → IfErr r Q
if_err_then (Ok x) then p = p
if_err_then (Err e) then p = then e p
