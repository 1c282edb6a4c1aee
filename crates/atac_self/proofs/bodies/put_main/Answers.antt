-- The three parts of the line.
use Rattle.std.specs.Prelude.{string_bytes, codes}
use Rattle.atac_self.specs.Generation.{calls}
use Rattle.atac_self.proofs.Steps.{three_parts}
use Rattle.atac_self.proofs.bodies.put_main.Goals as goal

pub returns : goal.returns
returns c =
    three_parts (string_bytes c.args.text.now) (string_bytes c.push_str.new.self) (string_bytes c.put_calls.new.text) (string_bytes c.push_str-2.new.self)
    (codes "int main(void){int c;int s;s=0;while((c=getchar())!=-1){") (calls c.args.count) (codes "}putchar(s);return 0;}\n")
    c.in_ok-push_str.ensures.bytes c.in_ok-put_calls.ensures c.in_ok-push_str-2.ensures.bytes
