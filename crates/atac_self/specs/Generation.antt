-- The program that is drawn from a seed, and three inputs for it: 200 functions of a number, each with a body of one of four
-- kinds, and a `main` that calls them all for each byte of its input.
use Rattle.std.specs.Prelude.{ℕ, ◌+◌, zero, suc, nat_eq, List, [], ◌∷◌, ◌++◌, codes, if◌then◌else◌}
use Rattle.std.specs.Fmt.{decimal}
use Rattle.atac_self.specs.Draws.{next, drawn}

-- what was drawn, and the state behind it
pub record Drawn (A : Type 0) : Type 0 where
  pub is : A
  pub state : ℕ

-- ---- bodies, each with a number of its own but the third

abbrev pub loop_body : ℕ → List ℕ
loop_body n = codes "while(k<" ++ (decimal n ++ codes "){x=x+k;k=k+1;}")

abbrev pub test_body : ℕ → List ℕ
test_body n = codes "if(x>" ++ (decimal n ++ (codes ")x=x-" ++ (decimal n ++ (codes ";else x=x+" ++ (decimal n ++ codes ";")))))

abbrev pub switch_body : List ℕ
switch_body = codes "switch(x&3){case 0:x=x+1;break;case 1:x=x+2;default:x=x+3;}"

abbrev pub array_body : ℕ → List ℕ
array_body n = codes "a[x&15]=x;k=a[" ++ (decimal n ++ codes "];x=x+(k&7);")

-- the body of a kind from 0 to 3, whose number is drawn behind the state
abbrev pub body_of : ℕ → ℕ → Drawn (List ℕ)
body_of kind state =
    if nat_eq kind 0 then record { is = loop_body (1 + drawn (next state) 5); state = next state }
    else (if nat_eq kind 1 then record { is = test_body (drawn (next state) 100); state = next state }
    else (if nat_eq kind 2 then record { is = switch_body; state = state }
    else record { is = array_body (drawn (next state) 16); state = next state }))

-- the kind is drawn first
abbrev pub body : ℕ → Drawn (List ℕ)
body state = body_of (drawn (next state) 4) (next state)

-- ---- functions

-- the line of the function of that number
abbrev pub function_line : ℕ → List ℕ → List ℕ
function_line i b = codes "int f" ++ (decimal i ++ (codes "(int n){int x;int k;x=n;k=0;" ++ (b ++ codes "return x;}\n")))

-- the first so many functions, numbered from 1
unfoldable pub functions : ℕ → ℕ → Drawn (List ℕ)
functions zero seed = record { is = []; state = seed }
functions (suc i) seed =
    let before = functions i seed in
    let last = body before.state in
    record { is = before.is ++ function_line (suc i) last.is; state = last.state }

-- ---- main

abbrev pub call_text : ℕ → List ℕ
call_text i = codes "s=(s+f" ++ (decimal i ++ codes "(c+s))&255;")

-- a call of each of the first so many functions
unfoldable pub calls : ℕ → List ℕ
calls zero = []
calls (suc i) = calls i ++ call_text (suc i)

abbrev pub main_line : ℕ → List ℕ
main_line n = codes "int main(void){int c;int s;s=0;while((c=getchar())!=-1){" ++ (calls n ++ codes "}putchar(s);return 0;}\n")

-- the text of a program with so many functions
abbrev pub program_of : ℕ → ℕ → List ℕ
program_of n seed = codes "int a[16];\n" ++ ((functions n seed).is ++ main_line n)

-- ---- inputs

-- so many bytes
unfoldable pub bytes : ℕ → ℕ → Drawn (List ℕ)
bytes zero state = record { is = []; state = state }
bytes (suc n) state =
    let before = bytes n state in
    record { is = before.is ++ drawn (next before.state) 256 ∷ []; state = next before.state }

-- so many inputs of 16 bytes
unfoldable pub inputs : ℕ → ℕ → Drawn (List (List ℕ))
inputs zero state = record { is = []; state = state }
inputs (suc n) state =
    let before = inputs n state in
    let last = bytes 16 before.state in
    record { is = before.is ++ last.is ∷ []; state = last.state }

-- ---- the whole

abbrev pub program_text : ℕ → List ℕ
program_text seed = program_of 200 seed

-- three inputs, drawn behind the program
abbrev pub input_bytes : ℕ → List (List ℕ)
input_bytes seed = (inputs 3 (functions 200 seed).state).is
