use Rattle.std.proofs.Common.{◌≡◌, ◌∙◌, arith, rules}
use Rattle.std.proofs.lemmas.Result.{err_from_is_err_and}
use Rattle.profile.specs.Tables.{table_rules}
use Rattle.text.specs.declared.fault.ProfileCause.TheVariants.{RuleTwice}
use Rattle.text.specs.Faults.{profile_fault}
use Rattle.text.specs.ProfileText.{event_names}
use Rattle.text.proofs.RuleSteps.{rule_fault, rule_twice, rule_more}
use Rattle.text.proofs.profiles.Vocabulary.rule_list.Goals as goal

pub returns-in_err-rule : goal.returns-in_err-rule
returns-in_err-rule c =
    let p = err_from_is_err_and c.from_residual.result c.from_residual.ensures.1 in
    rw (p.1, p.2) (rule_fault c.args.self.now.states c.args.self.now.symbols event_names c.args.n c.loop.counter (table_rules c.loop.table) c.loop.reader c.loop-test.true _ c.in_err-rule.ensures.value ∙ c.loop.invariant.0)

pub returns-then-is_err : goal.returns-then-is_err
returns-then-is_err c =
    let fault : c.new.result ≡ profile_fault RuleTwice c.in_ok-rule.place = search rules in
    rule_twice c.args.self.now.states c.args.self.now.symbols event_names c.args.n c.loop.counter (table_rules c.loop.table) c.loop.reader c.loop-test.true
    (record { value = (c.in_ok-rule.rule, c.in_ok-rule.place); rest = c.rule.new.reader }) c.add.result
    c.in_ok-rule.ensures.value c.add.ensures.answer c.in_ok-rule.ensures.lawful (omega arith)
    c.new.result c.if-is_err.ensures.value fault ∙ c.loop.invariant.0

pub loop-preserved : goal.loop-preserved
loop-preserved c =
    let more =
    rule_more c.args.self.now.states c.args.self.now.symbols event_names c.args.n c.loop.counter (table_rules c.loop.table) c.loop.reader c.loop-test.true
    (record { value = (c.in_ok-rule.rule, c.in_ok-rule.place); rest = c.rule.new.reader }) c.add.result
    c.in_ok-rule.ensures.value c.add.ensures.answer c.in_ok-rule.ensures.lawful (omega arith)
    (table_rules c.add.new.self) c.if-is_err.ensures.value c.add.ensures.rules in
    (more.0 ∙ c.loop.invariant.0, (let l = more.1 in omega arith))
