mod WovenLemmas
