-- What holds of each answer.
use Rattle.std.proofs.Common.{Result, Ok, Err, IfOk}

pub if_ok_both : {T E : Type 0} (r : Result T E) (P Q : T → Type 0) → IfOk r P → IfOk r Q → IfOk r (λ x. P x × Q x)
if_ok_both (Ok x) P Q first second = (first, second)
if_ok_both (Err e) P Q first second = tt

pub if_ok_three : {T E : Type 0} (r : Result T E) (P Q R : T → Type 0) → IfOk r P → IfOk r Q → IfOk r R → IfOk r (λ x. P x × Q x × R x)
if_ok_three (Ok x) P Q R first second third = (first, second, third)
if_ok_three (Err e) P Q R first second third = tt

pub if_ok_four : {T E : Type 0} (r : Result T E) (P Q R S : T → Type 0) → IfOk r P → IfOk r Q → IfOk r R → IfOk r S → IfOk r (λ x. P x × Q x × R x × S x)
if_ok_four (Ok x) P Q R S first second third fourth = (first, second, third, fourth)
if_ok_four (Err e) P Q R S first second third fourth = tt
