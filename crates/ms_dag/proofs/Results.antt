-- Facts of the value of a result.
use Rattle.std.proofs.Common.{Result, Ok, Err, IfOk, OnOk}

pub if_ok : {T E : Type 0} (r : Result T E) (P Q : T → Type 0) → ((value : T) → P value → Q value) → IfOk r P → IfOk r Q
if_ok (Ok value) P Q so holds = so value holds
if_ok (Err e) P Q so holds = tt

pub on_ok : {T E : Type 0} (r : Result T E) (P : T → Type 0) (Q : Type 0) → ((value : T) → P value → Q) → IfOk r P → OnOk r Q
on_ok (Ok value) P Q so holds = so value holds
on_ok (Err e) P Q so holds = tt

pub only_ok : {T E : Type 0} (r : Result T E) (P Q : Type 0) → (P → Q) → OnOk r P → OnOk r Q
only_ok (Ok value) P Q so holds = so holds
only_ok (Err e) P Q so holds = tt

pub both_ok : {T E : Type 0} (r : Result T E) (P : Type 0) (Q R : T → Type 0) → ((value : T) → P → Q value → R value) → OnOk r P → IfOk r Q → IfOk r R
both_ok (Ok value) P Q R so one two = so value one two
both_ok (Err e) P Q R so one two = tt
