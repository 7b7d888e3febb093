-- What words ask.
use Rattle.std.proofs.Common.{◌≡◌, ◌≢◌, Some, None, sym, subst}
use Rattle.std.specs.Prelude.{Option, List}
use Rattle.std.specs.Option.{option_map}
use Rattle.def_script.specs.Bytes.{Bytes}
use Rattle.def_descriptor_answer.specs.Words.{Command, command_of}
use Rattle.def_descriptor_answer.specs.Laws.{AskUtf8}
use Rattle.descriptor_cli.specs.declared.words.Command.{Command as Asked}
use Rattle.descriptor_cli.specs.Scaffolding.Steps.{seen, IsAsked}

pub asks : (words : List Bytes) (o : Option Asked) (command : Asked) → option_map seen o ≡ command_of words → o ≡ Some command → Some (seen command) ≡ command_of words
asks words o command e is = subst (λ (z : Option Asked). option_map seen z ≡ command_of words) is e

pub asks_nothing : (words : List Bytes) (o : Option Asked) → option_map seen o ≡ command_of words → o ≡ None → command_of words ≡ None
asks_nothing words o e is = sym (subst (λ (z : Option Asked). option_map seen z ≡ command_of words) is e)

pub asks_something : (words : List Bytes) (command : Command) → Some command ≡ command_of words → command_of words ≢ None
asks_something words command e none = cc

pub utf8_of : (words : List Bytes) (command : Asked) → Some (seen command) ≡ command_of words → IsAsked command → AskUtf8 (command_of words)
utf8_of words command e h = subst AskUtf8 e h.0

pub no_text : (words : List Bytes) → command_of words ≡ None → AskUtf8 (command_of words)
no_text words none = subst AskUtf8 (sym none) tt
